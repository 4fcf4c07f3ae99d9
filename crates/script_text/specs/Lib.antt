pub mod Script
pub mod BlockText
pub mod AnswerText
pub mod TokenLine
