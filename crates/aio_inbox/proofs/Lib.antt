mod Posts
mod Counting
mod Keeping
mod Owed
mod Ends
