pub mod Answered
pub mod Checked
