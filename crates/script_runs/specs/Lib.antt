pub mod Channel
pub mod Status
