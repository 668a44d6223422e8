pub mod Strips
pub mod Rows
pub mod Legend
pub mod Pieces
pub mod Rooms
pub mod Drawing
pub mod Drawings
