pub mod SetsAndMaps
pub mod SetAndMapLaws
pub mod Picks
pub mod PickLaws
