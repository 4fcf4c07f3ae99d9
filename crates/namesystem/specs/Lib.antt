pub mod Told
pub mod Performed
