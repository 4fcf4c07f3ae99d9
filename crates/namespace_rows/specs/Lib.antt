pub mod Rows
pub mod First
pub mod Namespace
pub mod Files
pub mod Opening
pub mod Judgement
pub mod Changes
