pub mod Keeping
pub mod Looking
pub mod Opened
pub mod Recording
pub mod Recoveries
