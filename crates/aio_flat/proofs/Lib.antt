mod Grows
mod Rows
mod PlaceLemmas
mod NumberLemmas
mod KnownLemmas
mod Blocks
pub mod CodeLemmas
