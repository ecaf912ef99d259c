mod Passing
mod Emptying
mod Returning
