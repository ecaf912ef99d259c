pub mod FutureCases
pub mod GroupCases
pub mod TimeoutCases
