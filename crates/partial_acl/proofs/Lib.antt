pub mod Tests
pub mod NamedLists
pub mod Completing
