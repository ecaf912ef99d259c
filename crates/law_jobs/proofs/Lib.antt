pub mod Entries
mod Courses
mod Keeping
mod Stepping
mod Runs
mod Own
