pub mod Vals
pub mod Lists
pub mod ValLaws
pub mod InPlace
