pub mod Merging
pub mod Rolling
