-- What the call makes.
pub use Rattle.byte_forward.specs.Calls.{IsCutMergeOf}
