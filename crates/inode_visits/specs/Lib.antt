pub mod Visits
pub mod SeenNode
pub mod Holding
pub mod Limits
