mod Shapes
pub mod Fitting
mod Going
mod Reaching
pub mod Running
mod Fewer
mod Timers
mod Books
mod Right
pub mod Drawing
mod Timing
pub mod Keeping
pub mod Asking
pub mod Counting
