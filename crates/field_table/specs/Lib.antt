pub mod Shapes
pub mod Tables
pub mod Plain
pub mod Ranges
pub mod Views
