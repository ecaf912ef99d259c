mod Counts
mod Opened
mod Others
mod Loop
