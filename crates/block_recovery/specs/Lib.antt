pub mod Decision
pub mod Plans
pub mod Kept
pub mod Lending
pub mod Laws
