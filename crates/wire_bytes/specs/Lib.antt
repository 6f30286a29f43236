pub mod Reading
pub mod FaultTexts
pub use Rattle.context_model.specs.Framing
pub use Rattle.context_model.specs.WireFault
pub use Rattle.context_model.specs.ContextFault
pub mod Laws
