pub mod Cluster
pub mod Past
pub mod World
