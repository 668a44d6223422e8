pub mod FileParts
pub mod Plans
pub mod Filling
pub mod Imports
