pub mod Token
pub mod Faults
pub mod Fronts
