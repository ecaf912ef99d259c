mod TableLemmas
mod Puts
mod Unawaited
