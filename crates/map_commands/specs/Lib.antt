pub mod Mapping
pub mod Drawing
pub use Rattle.heap_model.specs.Store
