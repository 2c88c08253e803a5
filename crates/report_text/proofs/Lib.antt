pub mod ConditionTexts
pub mod CostTexts
pub mod Rendering
pub mod RowTexts
