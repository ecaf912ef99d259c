pub mod AfterAsking
pub mod ByPart
pub mod InOrder
pub mod Owning
