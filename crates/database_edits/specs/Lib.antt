pub mod Managers
pub mod Opened
pub mod Edits
pub mod Headings
pub mod Recorded
pub mod Kept
