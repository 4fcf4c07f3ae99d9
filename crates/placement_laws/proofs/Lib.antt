pub mod Ahead
pub mod Chosen
pub mod Leading
