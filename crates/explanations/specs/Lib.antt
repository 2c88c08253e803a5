pub mod AllValid
pub mod Refused
