-- In the order to read, for public contracts:
pub mod Grammar
pub mod Feeding
pub mod Laws
-- Only for bodies, private functions' contracts and invariants:
pub mod Taking
