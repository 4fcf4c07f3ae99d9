pub mod Node
pub mod Kept
pub mod Falls
pub mod Part
pub mod Change
