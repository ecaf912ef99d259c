pub mod Environments
pub mod Coroutines
pub mod Agreeing
pub mod Bodies
