pub mod Resized
pub mod ByteChanges
pub mod Kept
pub mod Lifting
pub mod Packs
pub mod Stretches
