pub mod Laws
pub mod Many
pub mod Runs
pub use Rattle.context_model.specs.GreedyMerge
