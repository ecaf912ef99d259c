mod Launching
pub mod Placing
