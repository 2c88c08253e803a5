pub mod Connectives
pub mod Copies
pub mod Feeds
pub mod GroundedMeaning
pub mod Pairs
pub mod Parts
pub mod Sizes
pub mod FoldedWords
