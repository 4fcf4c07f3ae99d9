pub mod DataCall
pub mod Kept
pub mod Refusals
pub mod Trace
pub mod Provenance
pub mod Typed
pub mod Laws
