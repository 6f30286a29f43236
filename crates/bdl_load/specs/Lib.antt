-- The rule: faults and their names, what bytes say, and loading.
pub mod Faults
pub mod CodeNames
pub mod Source
pub mod Loading
-- What the crate's own functions say.
pub mod Loader
pub mod FaultTexts
