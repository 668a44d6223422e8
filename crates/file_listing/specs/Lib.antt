pub mod Damage
pub mod Moments
pub mod Categories
pub mod Listing
pub mod Lines
