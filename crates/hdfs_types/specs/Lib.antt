pub mod Request
pub mod File
pub mod Reply
pub mod AclStatus
pub mod Verb
