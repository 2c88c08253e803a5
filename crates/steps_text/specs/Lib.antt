pub mod Faults
pub mod Lines
pub mod LinesLeft
pub mod Meanings
pub mod StepsTexts
pub mod Telling
pub mod Words
