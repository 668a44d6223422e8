pub mod Words
mod Entries
mod Types
