pub mod Trees
pub mod Cases
pub mod Closed
pub mod StreamReplies
pub mod TreeEnd
