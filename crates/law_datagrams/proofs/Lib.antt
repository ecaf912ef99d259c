mod Parts
mod Noting
mod Receives
mod Receiving
mod Sends
mod Sending
mod Promised
mod Runs
