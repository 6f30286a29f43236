mod Checks
mod Separated
pub mod Letters
pub mod Lost
mod Cut
