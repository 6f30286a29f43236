pub mod Walk
pub mod Payloads
