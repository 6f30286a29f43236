pub mod Refusals
pub mod Places
pub mod Chosen
pub mod Found
pub mod Parts
pub mod Telling
pub mod Readers
pub mod FaultTexts
