mod Files
mod Giving
mod Newlines
mod WireLemmas
