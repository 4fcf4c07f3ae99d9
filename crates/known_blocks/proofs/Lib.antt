pub mod Below
pub mod Listed
pub mod Begun
pub mod Behind
