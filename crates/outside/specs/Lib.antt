pub mod Bounds
pub mod Causes
pub mod Faults
pub mod InMemory
pub mod Libraries
pub mod Transfers
pub mod FaultTexts
