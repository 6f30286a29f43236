pub mod Widening
pub mod Breaks
pub mod Common
pub mod Agreement
pub mod Evolution
pub mod BreakLists
pub mod Verdicts
pub mod Versions
