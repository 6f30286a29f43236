mod Joined
mod Grown
mod Parts
mod Places
mod Textless
mod ValueRows
mod OneBlock
pub mod SlotLines
