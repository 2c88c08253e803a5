pub mod KindLaws
mod NameTable
pub mod NameRows
pub mod FirstWords
pub mod DigitRuns
pub mod DecimalLaws
pub mod JoinedLaws
pub mod SameBytes
pub mod ShortWordLaws
mod ByteLanes
mod NameLanes
mod SpecialLanes
