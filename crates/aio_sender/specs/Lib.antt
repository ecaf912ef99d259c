pub mod Lost
pub mod Offers
pub mod Owned
pub mod SentAs
