mod TryLemmas
mod CutLemmas
mod ReadLemmas
mod BlockLemmas
