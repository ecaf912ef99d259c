mod BareLemmas
mod BareSteps
pub mod PartsLemmas
mod Queues
mod Keeping
mod Releasing
mod KeptFutures
mod KeptSteps
mod Nothing
mod Sizes
mod Plainly
mod NoWaiter
