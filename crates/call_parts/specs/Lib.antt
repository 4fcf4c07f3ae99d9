pub mod Chunks
pub mod Held
