pub mod Commas
pub mod ScalarTexts
pub mod ValueTexts
