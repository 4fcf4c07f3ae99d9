pub mod ReplicaState
pub mod ReplicaStep
