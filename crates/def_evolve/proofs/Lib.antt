pub mod Wider
pub mod Fitting
pub mod Agreement
pub mod ForBoth
pub mod CommonSlots
pub mod Clean
pub mod Safe
pub mod OtherNormal
pub mod TwoVersions
pub mod OneVerdict
pub mod RisingLists
pub mod FieldPlaces
pub mod ShapeViews
pub mod BreakSteps
pub mod CommonPaths
pub mod WiderLists
mod VerdictRows
