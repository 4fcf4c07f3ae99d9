pub mod Place
pub mod Changed
pub mod Seen
pub mod Kept
pub mod Finished
