mod Files
mod Pieces
mod Fronts
