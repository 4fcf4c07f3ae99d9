pub mod Refusal
pub mod BlockRefusals
