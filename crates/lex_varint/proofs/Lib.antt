pub mod Numbers
pub mod Ones
pub mod Puts
pub mod SignedFronts
pub mod UnsignedFronts
