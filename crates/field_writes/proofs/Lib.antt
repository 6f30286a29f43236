mod Answered
mod Quoted
mod Decimals
mod Apart
mod WordTexts
mod Structs
mod Unique
mod Bags
mod Taking
mod Whole
pub mod OneWrite
pub mod Fits
