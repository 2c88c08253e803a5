pub mod Bindings
pub mod Capped
pub mod Faults
pub mod Objects
pub mod Tallies
pub mod Texts
