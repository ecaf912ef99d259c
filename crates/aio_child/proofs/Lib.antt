mod Calling
pub mod Owning
