pub mod Graphs
pub mod Runs
pub mod Truth
pub mod Contributions
pub mod Faithful
pub mod ShownValues
pub mod CutReadings
