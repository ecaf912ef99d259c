mod Counting
mod Grouping
