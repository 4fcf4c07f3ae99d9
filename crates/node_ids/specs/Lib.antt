pub mod NodeId
