pub mod Entry
pub mod Spec
pub mod SpecText
