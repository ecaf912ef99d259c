mod Beginning
pub mod Replying
pub mod Rows
pub mod Trees
pub mod Turning
