pub mod Entries
pub mod Names
pub mod Headers
pub mod EitherEntry
pub mod Attributes
