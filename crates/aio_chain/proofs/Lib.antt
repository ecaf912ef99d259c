mod Chained
mod Steps
