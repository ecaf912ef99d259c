mod Waits
mod Gathered
