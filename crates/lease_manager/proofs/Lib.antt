pub mod Renewals
pub mod Order
pub mod Past
pub mod Counts
pub mod Moments
pub mod Leasing
