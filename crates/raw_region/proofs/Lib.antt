mod Apart
mod Bytes
mod Carries
pub mod ChangeLaws
mod Each
mod Fields
mod GappedFields
mod GapWrites
pub mod HoleLaws
pub mod LoanLaws
pub mod MarkLaws
mod PartLaws
mod Values
mod Walks
