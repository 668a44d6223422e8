pub mod Imports
pub mod Lookalikes
pub mod LineEnds
pub mod FaultyLines
