pub mod Asked
pub mod Faults
pub mod Histories
pub mod Replays
pub mod Rows
pub mod State
