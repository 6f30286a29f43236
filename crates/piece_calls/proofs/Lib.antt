mod Rooms
mod Quoted
mod ReadBack
