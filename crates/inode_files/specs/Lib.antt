pub mod Branch
pub mod Exchange
pub mod Rooms
