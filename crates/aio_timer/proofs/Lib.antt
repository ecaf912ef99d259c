mod Comparing
mod Sorting
mod Waiting
mod Searching
mod Keeping
