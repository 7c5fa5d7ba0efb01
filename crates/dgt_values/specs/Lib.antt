-- Cited by public contracts, in the order to read.
pub mod Equality
pub mod Bytes
pub mod Board
pub mod Placement
pub mod Segment
