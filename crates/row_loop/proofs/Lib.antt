mod Building
mod CancelStates
mod StepStates
mod TimeoutStates
mod GroupStates
