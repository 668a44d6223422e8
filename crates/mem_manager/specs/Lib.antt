pub mod Lookup
pub mod Known
pub mod Loans
pub mod Counting
pub mod Replies
