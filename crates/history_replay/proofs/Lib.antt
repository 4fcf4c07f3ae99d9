pub mod Stepping
pub mod Placing
pub mod Looking
pub mod Replaying
