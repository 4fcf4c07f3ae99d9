pub mod Fencing
pub mod OnePlan
