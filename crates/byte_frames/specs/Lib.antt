pub mod Frames
pub mod OpenAtoms
pub mod Reading
pub mod FaultTexts
