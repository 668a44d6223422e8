pub mod Windows1252
pub mod Texts
pub mod Strings
pub mod Pieces
