pub mod TreeLaws
pub mod LaidOut
pub mod EncodingLaws
pub mod Steps
pub mod FieldSteps
pub mod EntrySteps
pub mod SlotTrees
pub mod SlotSteps
