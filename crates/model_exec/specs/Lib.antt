pub mod Jobs
pub mod Execed
pub mod Serving
