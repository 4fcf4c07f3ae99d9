pub mod KeptBytes
pub mod Listed
pub mod Carried
pub mod Reports
