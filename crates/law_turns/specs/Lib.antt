pub mod After
pub mod Fits
pub mod FitsTurn
pub mod Replied
pub mod SoundState
pub mod Trees
