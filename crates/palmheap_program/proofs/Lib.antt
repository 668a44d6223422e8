pub mod LiveEnds
mod Printing
