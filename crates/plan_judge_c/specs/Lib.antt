pub mod Answers
pub mod Inputs
pub mod Kept
pub mod KeptAnswers
