pub mod Known
pub mod ListLaws
pub mod Unions
pub mod Joining
mod Searching
mod Placing
mod Merging
