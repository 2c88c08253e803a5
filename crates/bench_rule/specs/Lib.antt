pub mod Views
pub mod Sound
pub mod Plays
pub mod After
pub mod Shown
pub mod Laws
