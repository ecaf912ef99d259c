pub mod Written
pub mod ExpressionRows
pub mod Scripts
