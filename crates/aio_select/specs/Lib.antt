pub mod Takes
pub mod Answered
pub mod Room
pub mod First
