pub mod Status
pub mod BadLines
