pub mod Refusals
pub mod Carrying
pub mod Collecting
pub mod Quoting
pub mod Laws
pub mod FaultTexts
