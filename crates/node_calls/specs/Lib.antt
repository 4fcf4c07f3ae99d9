pub mod Refusals
pub mod Single
