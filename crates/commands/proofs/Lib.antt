pub mod Files
pub mod Texts
