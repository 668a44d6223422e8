pub mod Words
mod Bits
mod Entries
mod LockedData
mod SetAttributes
mod Turns
mod CategoryTurns
mod OneRecord
mod Moved
pub mod Laws
