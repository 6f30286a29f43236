-- The rule: forms, and the ways to build them.
pub mod Grammars
-- What the functions of a parser say of where a form stops.
pub mod Stops
