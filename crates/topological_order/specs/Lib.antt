-- The rule.
pub mod Graphs
pub mod Orders
-- What contracts of the crate's own functions cite besides.
pub mod Walk
pub mod Components
pub mod Cycles
