pub mod Refusals
pub mod Tables
pub mod Reports
pub mod Evolution
pub mod FaultTexts
