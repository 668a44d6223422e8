pub mod OneImage
pub mod Tried
pub mod BadTables
pub mod GrownImages
