pub mod Descents
pub mod Traversals
pub mod Denials
pub mod Standing
pub mod Steps
pub mod Opened
