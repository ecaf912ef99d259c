mod Outcomes
mod Promise
mod TextFronts
mod WireRuns
mod Writing
