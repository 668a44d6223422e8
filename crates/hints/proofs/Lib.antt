mod Missing
pub mod Returns
pub mod Hints
