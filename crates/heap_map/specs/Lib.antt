pub mod Numbers
pub mod Marks
pub mod Cells
pub mod Text
pub mod Pieces
pub mod Pictures
