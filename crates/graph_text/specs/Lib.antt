pub mod Names
pub mod Rules
pub mod Additions
pub mod Reading
pub mod Faults
pub mod FaultTexts
