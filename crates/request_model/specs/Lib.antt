pub mod Contributions
pub mod Contexts
pub mod Requests
pub mod Calls
