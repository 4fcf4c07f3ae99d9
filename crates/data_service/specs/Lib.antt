pub mod Seats
pub mod Logged
pub mod Parts
pub mod Found
