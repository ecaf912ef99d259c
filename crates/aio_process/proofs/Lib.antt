mod Bytes
mod Signals
