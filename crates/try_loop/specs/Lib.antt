pub mod Asker
pub mod NextTurn
pub mod Still
pub mod Wanted
