pub mod Check
pub mod Texts
pub mod Parts
pub mod Reading
pub mod Laws
