pub mod Histories
pub mod Judged
pub mod Pairs
pub mod KnownLaws
pub mod TakenLaws
