pub mod Sized
pub mod Replacing
