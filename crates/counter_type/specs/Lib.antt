pub mod Lattice
pub mod Entries
pub mod Counts
