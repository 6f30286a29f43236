mod Fields
mod KeyTurns
mod Known
mod SlotCalls
mod SlotFits
mod SlotPlaces
