mod Pushed
pub mod EntryLaws
mod Searching
