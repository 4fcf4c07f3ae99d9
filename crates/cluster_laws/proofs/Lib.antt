pub mod Logs
pub mod Grants
pub mod Lasting
pub mod Growing
