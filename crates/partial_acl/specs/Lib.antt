pub mod AclChange
pub mod Answers
pub mod Seen
