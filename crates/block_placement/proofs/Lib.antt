pub mod Ranks
pub mod Chosen
pub mod Few
