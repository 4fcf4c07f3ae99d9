pub mod Checking
pub mod Laws
