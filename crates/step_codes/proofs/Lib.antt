pub mod CodeLaws
pub mod CompiledEffects
pub mod Instructions
