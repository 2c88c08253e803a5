pub mod Bytes
pub mod Tokens
pub mod Lexeme
pub mod Lines
pub mod Cut
pub mod ParenRanges
pub mod Within
