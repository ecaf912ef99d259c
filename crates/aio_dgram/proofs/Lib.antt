mod Places
mod Woken
mod Kept
mod Answering
mod Same
mod Lifting
