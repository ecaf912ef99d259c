mod Names
mod Meanings
mod Targets
mod Judged
mod Heads
mod Parting
