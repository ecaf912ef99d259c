mod LineEnds
mod LinesByUntil
pub mod ReaderOrder
pub mod SoundWriters
pub mod WriterOrder
pub mod Along
pub mod SenderRuns
pub mod SoundSenders
pub mod SoundSends
mod ChildEnds
pub mod ChildOrder
mod ConnectionOrder
mod Losses
pub mod Quiet
pub mod ReceiverOrder
pub mod SoundConnections
mod SoundReceivers
