pub mod Numbers
pub mod Places
pub mod Marks
pub mod Reports
pub mod Held
pub mod Verdicts
