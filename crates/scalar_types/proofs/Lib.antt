pub mod FrontLaws
pub mod ListOrder
pub mod EscapeLaws
pub mod FormValues
pub mod PackedSteps
pub mod KindSpelled
pub mod VarintFronts
