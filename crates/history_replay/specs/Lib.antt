pub mod Agreement
pub mod Placing
pub mod Looking
pub mod Replaying
