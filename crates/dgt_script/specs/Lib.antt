-- what public contracts cite
pub mod ScriptWords
pub mod Script
pub mod FaultyScript
pub mod ScriptLines
pub mod Outcomes
-- only for bodies
pub mod ScriptReading
