pub mod Kept
pub mod Laws
pub mod Walk
pub mod Calls
pub mod Refusals
