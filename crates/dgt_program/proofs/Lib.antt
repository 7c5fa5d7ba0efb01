mod BackLemmas
mod EndLemmas
mod TaskLemmas
