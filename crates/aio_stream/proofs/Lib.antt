pub mod Placing
mod Lost
