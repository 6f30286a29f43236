pub mod Kinds
pub mod FaultTexts
