-- What children told waits within a turn to be run: at most one callback for each pipe, which takes more then, so none is in
-- vain. Between turns none waits.
use Rattle.std.specs.Prelude.{◌≡◌, ℕ, ◌+◌, ◌<◌, ◌≤◌, false, List, [], ◌∷◌, ◌++◌, length}
use Rattle.model_value.specs.Action.{Action}
use Rattle.model_loop.specs.Parts.{Handle, Parts, Timer}
use Rattle.model_loop.specs.Totals.{callbacks_of}
use Rattle.model_stream.specs.Requests.{StreamReader}
use Rattle.model_stream.specs.Streams.{Streams}
use Rattle.law_stream.specs.Ways.{one_if}
use Rattle.law_received.specs.Readers.{is_news, is_news_to, may_hear}

-- ---- what is no news
abbrev pub NoNews : List Action → Type 0
NoNews [] = Unit {0}
NoNews (it ∷ more) = (is_news it ≡ false) × NoNews more

abbrev pub NoneTimed : List Timer → Type 0
NoneTimed [] = Unit {0}
NoneTimed (timer ∷ timers) = (is_news timer.action ≡ false) × NoneTimed timers

-- none is registered on a future, and none has a time
pub record OwnNoNews (p : Parts) : Type 0 where
  pub callbacks : (id : ℕ) → NoNews (callbacks_of p id)
  pub timers : NoneTimed p.timers

-- ---- handles, by their stamps and what they do
pub record Entry : Type 0 where
  pub stamp : ℕ
  pub action : Action

abbrev pub entry_of : Handle → Entry
entry_of handle = record { stamp = handle.stamp; action = handle.action }

abbrev pub entries_of : List Handle → List Entry
entries_of [] = []
entries_of (handle ∷ handles) = entry_of handle ∷ entries_of handles

abbrev pub AreBelow : ℕ → List Entry → Type 0
AreBelow bar [] = Unit {0}
AreBelow bar (entry ∷ entries) = (entry.stamp < bar) × AreBelow bar entries

abbrev pub NoneNews : List Entry → Type 0
NoneNews [] = Unit {0}
NoneNews (entry ∷ entries) = (is_news entry.action ≡ false) × NoneNews entries

-- how many have news of a pipe
abbrev pub waiting : StreamReader → List Entry → ℕ
waiting from [] = 0
waiting from (entry ∷ entries) = one_if (is_news_to from entry.action) + waiting from entries

-- how many callbacks have
abbrev pub told_count : StreamReader → List Action → ℕ
told_count from [] = 0
told_count from (it ∷ more) = one_if (is_news_to from it) + told_count from more

-- ---- what is appended
-- Handles are appended that have no news, with stamps of their own.
pub record Appends (p q : Parts) : Type 0 where
  pub more : List Entry
  pub pending : entries_of q.pending ≡ entries_of p.pending ++ more
  pub none : NoneNews more
  pub below : AreBelow q.next_stamp more
  pub later : p.next_stamp ≤ q.next_stamp

-- So it goes where no news is registered on a future, and none has a time.
pub record Follows (p q : Parts) : Type 0 where
  pub own : OwnNoNews p → OwnNoNews q
  pub appends : OwnNoNews p → Appends p q

-- ---- within a turn
-- The first handles may run still: so many, all appended before the bar. What was appended since has no news, and there is at
-- most one handle with news of a pipe, which takes more.
pub record IsDue (bar left : ℕ) (s : Streams) (p : Parts) : Type 0 where
  pub own : OwnNoNews p
  pub first : List Entry
  pub since : List Entry
  pub pending : entries_of p.pending ≡ first ++ since
  pub many : length first ≡ left
  pub before : AreBelow bar first
  pub after : NoneNews since
  pub stamps : AreBelow p.next_stamp (first ++ since)
  pub once : (from : StreamReader) → waiting from first ≤ one_if (may_hear from s)
