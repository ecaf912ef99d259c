mod Joined
mod Statements
