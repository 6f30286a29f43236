pub mod Foreign
pub mod Layouts
pub mod Parts
pub mod ReadAgain
pub mod Rooms
pub mod Said
