pub mod NodeStep
pub mod Kept
pub mod Laws
pub mod Served
