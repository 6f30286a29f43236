pub mod Plain
pub mod GraphCode
pub mod Graphs
