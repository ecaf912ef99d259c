mod Rising
mod Entries
mod Seeing
mod Lifting
