pub mod Known
pub mod Kept
