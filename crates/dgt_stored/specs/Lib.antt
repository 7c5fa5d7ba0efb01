-- Cited by public contracts.
pub mod Stored
