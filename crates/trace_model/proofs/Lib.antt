pub mod ReachLaws
pub mod LayoutFronts
pub mod SlotParts
pub mod PlainEnds
pub mod CutLists
pub mod Telling
pub mod CutReadingLaws
pub mod Arrivals
pub mod TruthLaws
pub mod ContributedLaws
pub mod ListedAdditions
pub mod FaithfulLaws
pub mod RunLaws
pub mod ShownLaws
pub mod ShownSteps
pub mod GivenLaws
mod GraphRows
