pub mod Bits
pub mod Faults
pub mod Owners
pub mod Summary
pub mod Survey
pub mod Chained
