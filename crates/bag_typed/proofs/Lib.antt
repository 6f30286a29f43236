mod Orders
mod Data
mod Keys
mod Fields
mod Spellings
mod Shapes
