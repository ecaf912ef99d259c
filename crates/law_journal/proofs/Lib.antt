pub mod Items
pub mod Lengths
pub mod Numbers
pub mod Tokens
pub mod Words
pub mod Readings
pub mod Newlines
pub mod Journals
mod Recorded
pub mod Tasks
pub mod Lines
mod Standing
mod Meanings
pub mod WorkBodies
pub mod Texts
pub mod Scripts
pub mod WorkJournals
