pub mod Visits
pub mod FileBlocks
pub mod Limits
