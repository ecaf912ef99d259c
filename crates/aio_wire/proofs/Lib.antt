mod Clashing
mod GivenLemmas
mod GotLemmas
mod ShelvedLemmas
mod Watching
