pub mod Answering
pub mod KeptDrops
pub mod KeptValues
pub mod KeptAnswers
