pub mod Counts
pub mod LineVectors
pub mod TokenVectors
pub mod AnswerVectors
pub mod BlockTexts
