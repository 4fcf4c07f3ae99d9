pub mod Finding
pub mod Legality
pub mod Owning
