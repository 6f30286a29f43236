pub mod Extension
pub mod Blocks
