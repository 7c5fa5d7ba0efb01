-- Cited by public contracts.
pub mod Host
pub mod Confirmed
