pub mod Depths
mod MarkTable
pub mod MarkLemmas
mod BlockLemmas
pub mod LevelLemmas
pub mod ListLemmas
pub mod AtomLemmas
pub mod FormulaLemmas
pub mod EffectLemmas
pub mod ActionLemmas
pub mod ListsOf
pub mod Guards
pub mod TypedLemmas
pub mod WordLemmas
pub mod VariableLemmas
pub mod DomainLemmas
pub mod ProblemLemmas
mod TakenSections
pub mod TextLemmas
pub mod Spelling
pub mod Balanced
pub mod Ahead
pub mod InitialLemmas
pub mod Memory
pub mod FunctionLemmas
pub mod DialectLaws
pub mod RowLemmas
pub mod ReservedWords
