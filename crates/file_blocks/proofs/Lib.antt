pub mod Lengths
pub mod Commits
