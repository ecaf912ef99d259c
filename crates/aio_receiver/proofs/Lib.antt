mod Needing
mod Taking
mod Waking
