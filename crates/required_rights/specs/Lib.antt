pub mod NeedText
pub mod RequiredRights
pub mod Demands
