pub mod Words
pub mod Options
