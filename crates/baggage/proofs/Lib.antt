pub mod CommandLine
pub mod Interrupted
pub mod Fronts
