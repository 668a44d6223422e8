pub mod Checks
pub mod Categories
