pub mod Writing
pub mod Values
pub mod Extracting
pub mod Laws
