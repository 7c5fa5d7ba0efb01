-- Cited by public contracts, in the order to read.
pub mod State
pub mod Sending
pub mod View
pub mod Simulated
-- Only for bodies: how memory represents a board.
pub mod Kept
