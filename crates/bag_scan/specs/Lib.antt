pub mod Searches
pub mod Spans
pub mod States
pub mod Headers
