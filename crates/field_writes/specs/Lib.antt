pub mod Ends
pub mod Literals
pub mod Writes
