pub mod Ample
pub mod Changes
pub mod Kept
pub mod Recovered
