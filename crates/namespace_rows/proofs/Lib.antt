pub mod PathOrders
pub mod Namespaces
pub mod Tests
