-- Shared by the proofs of handles.
pub mod HandleRow
pub mod HandleLending
pub mod HandleMaking
pub mod EachHandle
-- Lemmas.
pub mod AsciiLemmas
pub mod ChessLemmas
pub mod ChessOnceLemmas
pub mod ChessTextLemmas
pub mod ChunkLemmas
pub mod Codes
pub mod EncodingLemmas
pub mod GameLemmas
pub mod HearingLemmas
pub mod OnceLemmas
pub mod ReservedLemmas
pub mod TextLemmas
