mod Added
mod Gathering
mod Reading
mod Replying
mod Routing
mod Turning
