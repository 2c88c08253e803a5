pub mod Lemmas
mod Classes
pub mod CutLaws
pub mod Within
mod Table
mod OnlyCut
pub mod PlainRows
pub mod NamesArePlain
pub mod Counts
mod NamePairs
mod CommentRuns
