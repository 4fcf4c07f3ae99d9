pub mod Effected
pub mod Inheriting
