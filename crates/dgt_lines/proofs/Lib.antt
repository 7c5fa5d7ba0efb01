pub mod DecimalLemmas
pub mod EventLemmas
pub mod GatherLemmas
pub mod HexLemmas
pub mod LineLemmas
pub mod PictureLemmas
pub mod ChunkLemmas
pub mod RankLemmas
pub mod TextLemmas
pub mod TurnLemmas
pub mod Printed
pub mod Heard
pub mod Pictured
pub mod Listed
pub mod Logged
pub mod StoredLines
pub mod NamedLemmas
pub mod ClosingLemmas
pub mod PrintedWords
mod ClockLemmas
mod NameLaws
mod DoubtLemmas
mod ReportLemmas
mod ShownLemmas
