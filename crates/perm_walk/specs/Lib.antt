pub mod Kept
pub mod Closed
pub mod Reached
pub mod Walked
pub mod JudgedStep
pub mod Found
pub mod Target
