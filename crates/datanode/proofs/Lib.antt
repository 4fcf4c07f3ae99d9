pub mod Steps
pub mod Nodes
pub mod Records
pub mod Kept
pub mod Found
pub mod Served
