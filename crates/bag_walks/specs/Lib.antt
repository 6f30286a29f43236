pub mod Parts
pub mod Searches
pub mod Gathering
pub mod Slots
pub mod SupersededPlaces
pub mod SlotFits
