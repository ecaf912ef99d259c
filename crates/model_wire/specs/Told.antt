-- What contracts see of the outside: what a shelf's files hold, what a source has left, what a sink took, what a wire
-- has left to answer, and how often each of them failed. What is not told is `None`, and then nothing is promised of
-- content.
use Rattle.std.specs.Prelude.{◌≡◌, ℕ, ◌+◌, ◌-◌, ◌^◌, ◌≤◌, Bool, List, ◌++◌, Option, Some, None, min}
use Rattle.model_wire.specs.declared.event.Handed.{Handed}
use Rattle.model_wire.specs.Call.{Call}
use Rattle.model_wire.specs.Journal.{Entry}

-- A shelf as it is seen. A file is not told, or missing, or holds these bytes. Failures are counted by file; a shelf may
-- keep one count for all of its files.
pub record ShelfSeen : Type 0 where
  pub file : List ℕ → Option (Option (List ℕ))
  pub faults : List ℕ → ℕ

-- a source as it is seen: the bytes that are left, where they are told, and how often it failed
pub record SourceSeen : Type 0 where
  pub left : Option (List ℕ)
  pub faults : ℕ

-- a sink as it is seen: the bytes that it took, where they are told, and how often it failed
pub record SinkSeen : Type 0 where
  pub taken : Option (List ℕ)
  pub faults : ℕ

-- How a wire ended: not yet, with no answer left, or at a line that is no entry, with its number and cause.
pub data WireEnd : Type 0 where
  Going : WireEnd
  OutOfAnswers : WireEnd
  AtRefused : (line cause : ℕ) → WireEnd

-- A wire as it is seen. Where it tells them: the entries that are left, the calls that it was asked, and the bytes that
-- each connection and child was handed. Always: how it ended, whether each answer of it fits its call, and how often it
-- failed.
pub record WireSeen : Type 0 where
  pub left : Option (List Entry)
  pub asked : Option (List Call)
  pub handed : Option (Handed → List ℕ)
  pub end : WireEnd
  pub fitting : Bool
  pub faults : ℕ

-- where something is told, it is this
abbrev pub Agrees : {A : Type 0} → Option A → A → Type 0
Agrees {A} told actual = (held : A) → told ≡ Some held → held ≡ actual

-- what is told once a piece came after what was there
abbrev pub grown : Option (List ℕ) → List ℕ → Option (List ℕ)
grown None piece = None
grown (Some held) piece = Some (held ++ piece)

-- a sink that took a piece more, and did not fail
abbrev pub took : SinkSeen → List ℕ → SinkSeen
took sink piece = record { taken = grown sink.taken piece; faults = sink.faults }

-- A count rose between two moments, or stands at the last value of its type, where it can't.
abbrev pub Rose : ℕ → ℕ → Type 0
Rose before now = min (before + 1) (2 ^ 64 - 1) ≤ now

-- a call on this file failed
abbrev pub FileFailed : List ℕ → ShelfSeen → ShelfSeen → Type 0
FileFailed name old new = Rose (old.faults name) (new.faults name)

-- no call on a file failed
abbrev pub NoneFailed : ShelfSeen → ShelfSeen → Type 0
NoneFailed old new = new.faults ≡ old.faults

-- no count fell
abbrev pub NoneFell : ShelfSeen → ShelfSeen → Type 0
NoneFell old new = (name : List ℕ) → old.faults name ≤ new.faults name

-- a sink took this piece, and then it failed
abbrev pub SinkFailed : List ℕ → SinkSeen → SinkSeen → Type 0
SinkFailed piece old new = (new.taken ≡ grown old.taken piece) × Rose old.faults new.faults
