pub mod Separated
mod Spaces
pub mod WordBytes
pub mod Numbers
pub mod DecimalTexts
pub mod LineLaws
pub mod FedLines
pub mod ReadingLaws
pub mod HexLaws
