-- what public contracts and laws cite
pub mod Faults
pub mod Tasks
pub mod Ends
