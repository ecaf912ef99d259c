mod Pass
mod Stopped
