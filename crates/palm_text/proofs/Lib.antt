pub mod Fronts
pub mod Parts
pub mod Hexes
pub mod Sequences
pub mod PieceTexts
