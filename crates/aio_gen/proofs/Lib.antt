mod RequestLemmas
mod Running
mod Clauses
mod Values
mod Resuming
