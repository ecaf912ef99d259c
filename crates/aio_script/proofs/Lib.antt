mod Counts
mod Reading
