pub mod PathLists
pub mod NextHeaders
pub mod SlotGaps
pub mod PlainKept
pub mod ReadAlike
pub mod KeptLaws
mod KeptRows
pub mod SlotOrder
pub mod GapParts
pub mod SlotParts
pub mod WayTests
pub mod Steps
pub mod Turns
pub mod SlotSteps
pub mod InputSteps
mod BudgetLaws
mod TextLaws
