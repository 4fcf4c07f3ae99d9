pub mod Forgeries
