pub mod RowTexts
pub mod Places
pub mod Allowed
pub mod CategoryNames
