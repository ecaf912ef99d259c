pub mod Shape
pub mod Released
pub mod Placed
pub mod Walk
pub mod Weight
pub mod Quiet
pub mod Seek
pub mod Open
