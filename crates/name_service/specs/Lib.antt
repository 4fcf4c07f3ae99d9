pub mod Passes
pub mod Lent
pub mod Serving
pub mod Working
pub mod Laws
pub mod Jobs
pub mod Shares
