pub mod Members
pub mod Orders
pub mod Scripts
pub mod Sent
