pub mod Among
pub mod Exchanging
pub mod OneAsk
pub mod Following
pub mod Leading
pub mod Telling
