mod DataPlaces
pub mod FieldTurns
pub mod KeyTurns
pub mod SpanLaws
pub mod FieldGets
pub mod FieldHeaders
pub mod StateLaws
