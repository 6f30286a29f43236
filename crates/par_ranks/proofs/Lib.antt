pub mod Crossing
pub mod Giving
pub mod Turning
pub mod Putting
pub mod Running
pub mod Gathering
