pub mod Agreeing
pub mod Growing
