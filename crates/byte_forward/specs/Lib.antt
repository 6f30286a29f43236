pub mod Contexts
pub mod Room
pub mod Calls
pub mod Merging
pub mod Cutting
pub mod FaultTexts
pub mod Laws
pub mod Runs
