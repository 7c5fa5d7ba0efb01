mod ClockLemmas
mod SquareLemmas
mod RisingLemmas
mod SendingLemmas
mod TakingLemmas
mod BacklogLemmas
mod DumpLemmas
