mod AsciiTexts
mod ValueBytes
mod SlotShapes
mod SlotObjects
mod SameData
pub mod Placed
pub mod OneObject
pub mod Floatless
pub mod ObjectRows
