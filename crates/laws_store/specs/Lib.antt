pub mod StoreTests
pub mod Changes
pub mod Entries
pub mod Laws
