pub mod Programs
pub mod Codes
pub mod Compiling
