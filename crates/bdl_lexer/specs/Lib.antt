-- The rule: bytes, places, pieces, tokens, and the first fault.
pub mod Bytes
pub mod Places
pub mod Scan
pub mod Tokens
pub mod Faults
-- What follows from the rule for each token, as the parser wants it.
pub mod Spans
-- What the crate's own functions say of one step.
pub mod Lexer
pub mod FaultTexts
