pub mod Code
pub mod Held
pub mod Answers
pub mod GoesOn
pub mod Stands
pub mod Exits
