pub mod Replaced
pub mod Alike
pub mod WrittenOut
pub mod Implications
pub mod Literals
pub mod Laws
