pub mod Contexts
pub mod Room
pub mod Refusals
pub mod Spans
pub mod Calls
pub mod FaultTexts
