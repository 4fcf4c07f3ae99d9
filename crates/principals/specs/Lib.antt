pub mod Users
pub mod Faults
