pub mod Forms
pub mod Inheritance
pub mod Laws
