pub mod Writes
pub mod Readings
pub mod FaultTexts
