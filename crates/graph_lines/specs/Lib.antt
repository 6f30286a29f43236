pub mod Statements
pub mod Forms
pub mod Reading
pub mod Acts
