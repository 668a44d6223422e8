pub mod Header
pub mod Blank
pub mod FaultNames
pub mod Laws
