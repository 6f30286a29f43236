mod Readings
mod Joins
