pub mod LiveRuns
pub mod Runs
pub use Rattle.heap_model.specs.Store
