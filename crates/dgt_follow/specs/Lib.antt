-- Cited by public contracts.
pub mod Pace
pub mod Follower
pub mod Calls
-- only for bodies
pub mod Noting
