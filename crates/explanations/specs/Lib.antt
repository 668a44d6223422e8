pub mod Subjects
pub mod Explained
pub mod Ends
