pub mod Command
pub mod Requests
pub mod Run
