pub mod Cuts
pub mod Shapes
pub mod Read
pub mod Facts
mod Meanings
pub mod Fronts
pub mod Spelling
pub mod TokenTexts
pub mod ExprTexts
pub mod LineReads
pub mod Arguments
pub mod FormReads
pub mod Printable
pub mod Goods
pub mod GoodTerms
pub mod GoodForms
pub mod MeantTerms
pub mod MeantLines
