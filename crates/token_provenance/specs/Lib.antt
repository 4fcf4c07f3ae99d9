pub mod Provenance
pub mod Index
