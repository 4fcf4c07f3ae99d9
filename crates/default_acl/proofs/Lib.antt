pub mod Partials
pub mod Changing
pub mod Inheriting
pub mod Repeating
pub mod Judging
pub mod Listed
pub mod Distinct
pub mod Setting
