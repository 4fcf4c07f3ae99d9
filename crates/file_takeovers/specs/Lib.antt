pub mod Found
pub mod Expiry
pub mod Taken
pub mod Recovered
