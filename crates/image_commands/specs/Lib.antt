pub mod Commands
pub use Rattle.heap_model.specs.Store
pub use Rattle.chunk_format.specs.Blank
pub use Rattle.store_check.specs.Checks
pub mod FaultLines
pub mod FaultDocuments
pub mod Printed
pub mod ImageChecks
