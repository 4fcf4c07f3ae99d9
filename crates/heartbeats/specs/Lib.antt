pub mod Best
pub mod Live
