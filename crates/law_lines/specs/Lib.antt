pub mod Lexemes
pub mod Known
pub mod LineTexts
pub mod WellWritten
