pub mod Lexeme
pub mod Term
pub mod TermCode
pub mod TermSize
pub mod TermFalls
pub mod TermCase
pub mod Operand
pub mod Spelled
