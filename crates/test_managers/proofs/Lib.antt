pub mod LoansOut
pub mod Wholes
