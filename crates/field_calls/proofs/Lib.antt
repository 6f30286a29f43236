mod NameTexts
mod Offsets
mod TextLaws
