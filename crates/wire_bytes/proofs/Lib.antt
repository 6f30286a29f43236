pub mod Codings
pub mod Stops
pub mod OneCode
mod Widths
mod Offsets
mod Ends
