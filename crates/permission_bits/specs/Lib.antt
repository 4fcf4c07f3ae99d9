pub mod Rights
pub mod Mode
pub mod Modes
