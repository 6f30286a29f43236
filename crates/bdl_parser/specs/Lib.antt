-- The rule: words, trees, what tokens say, the grammar, and the first fault.
pub mod Words
pub mod Trees
pub mod Lexemes
pub mod Grammar
pub mod FirstFault
-- What follows from the rule for fields, as a table wants it.
pub mod Decls
-- The trees of the code's types.
pub mod Views
-- What the crate's own functions say.
pub mod ReservedWords
pub mod Refusals
-- Codes by which proofs tell values apart.
pub mod TreeCode
pub mod DeclCode
pub mod FaultTexts
