pub mod Bits
pub mod Finding
pub mod Changed
pub mod Inherited
pub mod Given
