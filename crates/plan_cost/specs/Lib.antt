pub mod Amounts
pub mod Assessments
pub mod CompactCosts
pub mod Costs
pub mod Laws
