pub mod NameCore
pub mod Kept
