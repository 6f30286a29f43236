mod ToCome
mod Cuts
mod Walks
mod Fitting
mod Rooms
mod Made
mod RunSteps
