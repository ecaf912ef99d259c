pub mod Lists
pub mod Together
pub mod Within
pub mod Reaching
pub mod Missing
