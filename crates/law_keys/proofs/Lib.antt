pub mod Datagrams
pub mod Jobs
pub mod Keys
