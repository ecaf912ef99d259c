mod Accepts
mod Acts
mod Connects
mod Listeners
mod Listens
