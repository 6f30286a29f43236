-- The rule, in the order of reading.
pub mod Declarations
pub mod Faults
pub mod Types
pub mod Fields
pub mod Checks
pub mod Passes
pub mod Recursion
pub mod Layouts
pub mod Tables
pub mod Compiler
-- What contracts of the crate's own functions cite besides.
pub mod DeclarationCode
pub mod DeclarationViews
pub mod Lookups
pub mod Sizes
