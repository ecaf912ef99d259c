pub mod Posting
mod Lists
mod Outs
mod Ins
mod Fronts
mod Waits
