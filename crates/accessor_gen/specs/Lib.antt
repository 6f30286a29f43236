pub mod Finding
pub mod Access
pub mod Laws
