pub mod Dialects
pub mod Handing
