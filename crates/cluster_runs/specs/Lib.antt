pub mod Output
pub mod Shown
pub mod Ended
pub mod Laws
pub mod Audit
pub mod Recorded
