pub mod JsonText
pub mod AuditText
pub mod Tokens
