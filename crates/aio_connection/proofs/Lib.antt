mod Calling
mod Owning
