pub mod NumberAmounts
pub mod Sums
