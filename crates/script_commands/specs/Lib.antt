pub mod LentBytes
pub mod LineCounts
pub mod Commands
