mod Offsets
mod TextLaws
