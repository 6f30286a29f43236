pub mod Runs
pub mod FirstBytes
pub mod Longest
pub mod Scans
pub mod Walk
pub mod OnePiece
pub mod OneCut
pub mod Spans
