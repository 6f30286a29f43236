pub mod Encodable
pub mod Laws
pub mod Lengths
