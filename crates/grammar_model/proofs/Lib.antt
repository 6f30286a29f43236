pub mod FormLaws
pub mod ChoiceLaws
pub mod StopLaws
pub mod GoOnLaws
pub mod Growth
pub mod Fronts
