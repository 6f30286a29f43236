pub mod Growing
pub mod Parents
pub mod Crossing
