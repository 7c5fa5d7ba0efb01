pub mod HearingLemmas
pub mod ConfirmedLemmas
pub mod StretchLemmas
pub mod OneSending
pub mod FewFaults
