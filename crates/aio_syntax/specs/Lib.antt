pub mod Constant
pub mod Expr
pub mod ExprFalls
pub mod ExprCase
pub mod ExprCode
pub mod ExprSize
