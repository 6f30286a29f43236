pub mod Answers
pub mod Words
pub mod Lines
pub mod Readings
pub mod HexLines
pub mod FedLines
pub mod FaultTexts
