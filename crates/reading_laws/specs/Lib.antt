pub mod TextTrees
pub mod TypedLists
pub mod TypeCycles
pub mod ReadTables
pub mod DeclaredTables
pub mod DeclaredOnce
