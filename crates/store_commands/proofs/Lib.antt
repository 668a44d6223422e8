pub mod Documents
pub mod Lookups
pub mod Lines
pub mod Imported
