pub mod Passing
pub mod Entitled
