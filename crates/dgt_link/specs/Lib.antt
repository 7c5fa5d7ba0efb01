-- cited by public contracts
pub mod Act
pub mod View
pub mod Step
pub mod Machine
pub mod Sound
pub mod Stands
pub mod Promise
pub mod Settling
pub mod Headline
pub mod Faults
pub mod Healing
pub mod Clocks
pub mod History
pub mod Reported
-- only for bodies
pub mod Work
pub mod Readers
