pub mod Operands
pub mod Pending
pub mod Reader
pub mod Ends
pub mod Feeding
pub mod Rows
