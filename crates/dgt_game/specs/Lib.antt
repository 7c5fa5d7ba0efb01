-- Cited by public contracts, in the order to read.
pub mod Lines
pub mod Told
pub mod Memory
pub mod Missing
pub mod Recogniser
pub mod Laws
pub mod Results
pub mod Waiting
pub mod Staying
pub mod Timing
pub mod Planning
pub mod Reading
pub mod Standing
pub mod Sure
pub mod Runs
pub mod Filed
pub mod Settling
pub mod Finding
pub mod Unseen
-- Only for bodies.
pub mod Ways
pub mod Reach
