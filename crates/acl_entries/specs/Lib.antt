pub mod Acl
pub mod Everyone
pub mod JudgedEntry
pub mod Kept
pub mod Printed
