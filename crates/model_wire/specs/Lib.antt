pub mod Call
pub mod Fits
pub mod Event
pub mod Journal
pub mod JournalText
pub mod Told
pub mod Trace
