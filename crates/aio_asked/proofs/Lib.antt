mod OnSockets
mod Replying
