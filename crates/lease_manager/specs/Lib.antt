pub mod Leases
pub mod Shown
pub mod Writers
