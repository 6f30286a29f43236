pub mod Pieces
pub mod Carrying
pub mod Rules
pub mod Collecting
pub mod Views
pub mod FaultTexts
