mod Reaching
mod Forks
mod Changes
mod Names
mod Seeing
