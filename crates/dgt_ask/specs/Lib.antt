-- what public contracts cite
pub mod Asks
-- what private contracts cite
pub mod Asking
