pub mod HeapImages
pub mod Moves
pub mod Stretches
pub mod StoreImages
pub mod Files
