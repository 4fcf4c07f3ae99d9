pub mod BlockFacts
pub mod BlockEffects
