pub mod Table
pub mod Known
