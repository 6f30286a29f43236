mod Places
mod DataParts
mod Turns
mod FieldHeaders
mod Below
mod Keys
mod SlotTurns
