pub mod Refusals
pub mod Fields
pub mod Reading
pub mod Writing
pub mod FaultTexts
