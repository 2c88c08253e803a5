pub mod History
pub mod Passes
pub mod Places
pub mod Watches
pub mod Judging
pub mod Known
pub mod Learned
