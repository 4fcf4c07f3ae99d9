pub mod Indexes
pub mod Held
pub mod Loads
pub mod Restored
pub mod Chosen
pub mod Reported
