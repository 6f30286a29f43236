pub mod Lines
pub mod Inputs
pub mod Updates
pub mod Refusals
pub mod FaultTexts
pub mod Excerpts
pub mod Laws
