pub mod Conditions
pub mod CostText
pub mod Format
pub mod Notation
pub mod Pieces
pub mod Report
