pub mod EffectHeights
pub mod Validity
