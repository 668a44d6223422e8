pub mod Growth
pub mod Stores
pub mod FaultNames
pub mod Writing
