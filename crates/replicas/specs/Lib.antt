pub mod Lending
pub mod Asking
pub mod Sending
