pub mod Live
pub mod Sessions
