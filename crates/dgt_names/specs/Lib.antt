-- Cited by public contracts.
pub mod Names
