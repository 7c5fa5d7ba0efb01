-- Cited by public contracts.
pub mod Followed
pub mod Heard
pub mod OneByte
pub mod Restated
