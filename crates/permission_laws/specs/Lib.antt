pub mod Attempt
pub mod Laws
pub mod Judging
