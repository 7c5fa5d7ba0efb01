-- What C calls receive and report, in the order to read.
pub mod Slices
pub mod Clocks
pub mod Reported
pub mod Hearing
pub mod Chunks
pub mod Commands
pub mod Reading
pub mod Sent
pub mod ClockSending
pub mod Encoding
pub mod Texts
pub mod Kinds
pub mod Names
pub mod Boards
pub mod Starting
pub mod PlainBoard
pub mod Followers
pub mod PlainFollower
pub mod Chess
pub mod ChessTexts
pub mod Games
pub mod Recognisers
-- That reports are unique.
pub mod Once
pub mod ChessOnce
pub mod GamesOnce
-- Structs of C in memory.
pub mod Layouts
