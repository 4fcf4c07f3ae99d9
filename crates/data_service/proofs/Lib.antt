pub mod Noting
pub mod Finding
