-- what public contracts cite
pub mod Lines
pub mod Clocks
pub mod NamedLines
pub mod Pictures
pub mod Reports
pub mod FaultText
pub mod Marks
pub mod Writing
pub mod Device
pub mod CommandWords
pub mod CommandLines
pub mod CommandLaws
pub mod Logs
pub mod Turns
pub mod RunLaws
pub mod Monitoring
pub mod Picturing
pub mod Commanding
pub mod Logging
pub mod Closing
-- only for bodies
pub mod Wording
pub mod ClockMessages
pub mod Printing
