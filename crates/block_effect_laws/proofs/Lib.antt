pub mod Orders
pub mod Reports
pub mod Looking
pub mod Turning
pub mod Effects
