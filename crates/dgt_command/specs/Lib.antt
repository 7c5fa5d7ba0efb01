-- What public contracts cite
pub mod Ids
pub mod Content
pub mod Encoding
pub mod Words
pub mod Framing
pub mod Display
pub mod Equality
pub mod Laws
-- Only for bodies
pub mod Lengths
