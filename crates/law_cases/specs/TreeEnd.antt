-- What a tree of streams leaves of the machine's state where it ends: the streams are still those from which it began, and of
-- the loop its parts alone changed.
use Rattle.std.specs.Prelude.{◌≡◌, ℕ, ◌+◌, ◌≤◌, ◌<◌, true, length}
use Rattle.model_loop.specs.Futures.{is_pending, next_future}
use Rattle.model_loop.specs.Owning.{is_plain}
use Rattle.model_loop.specs.Parts.{Parts, Plain}
use Rattle.model_stream.specs.Kept.{StreamsKeep, times_asked, times_kept}
use Rattle.model_stream.specs.Streams.{Streams}
use Rattle.model_machine.specs.State.{State}
use Rattle.model_machine.specs.Told.{told_in}
use Rattle.law_changes.specs.Changes.{PartsChange, CallsSoon, MakesFuture, Settles, made_of_parts}
use Rattle.law_changes.specs.Reaches.{Reaches}
use Rattle.law_cases.specs.Trees.{Owned, is_of_streams, made_in, names_opened}

-- what there was where a tree begins
abbrev pub owned_in : {S : Type 0} → State S → Owned
owned_in s = record { has = is_plain s.loop.parts; connections = length s.streams.connections }

-- a change of the parts that a tree may make, where there are so many connections
abbrev pub MayInTree : (connections : ℕ) → PartsChange → Parts → Type 0
MayInTree connections (CallsSoon it) p = is_of_streams it ≡ true
MayInTree connections (MakesFuture kind) p = kind ≡ Plain
MayInTree connections (Settles future outcome) p =
    (is_plain p future ≡ true) × (names_opened connections outcome ≡ true)
MayInTree connections _ p = ⊥

pub record IsTreeEnd {S : Type 0} (s t : State S) : Type 0 where
  pub program : t.program ≡ s.program
  pub extra : t.extra ≡ s.extra
  pub generators : t.generators ≡ s.generators
  pub streams : t.streams ≡ s.streams
  pub futures : t.futures ≡ s.futures
  pub main_done : t.main_done ≡ s.main_done
  pub loop : t.loop ≡ record s.loop { parts = t.loop.parts }
  pub row : Reaches made_of_parts (MayInTree (length s.streams.connections)) s.loop.parts t.loop.parts
  pub told : (group : ℕ) → told_in t.events group ≡ told_in s.events group
  -- futures that were plain are, and those that were made are plain and pending
  pub kept : (future : ℕ) → is_plain s.loop.parts future ≡ true → is_plain t.loop.parts future ≡ true
  pub made : (future : ℕ) → next_future s.loop.parts ≤ future → future < next_future t.loop.parts
      → (is_plain t.loop.parts future ≡ true) × (is_pending t.loop.parts future ≡ true)

-- With the streams that it ends with, each future that these keep is a plain one, and kept no more often than before, but for
-- those that were made; and what was open is open still.
pub record IsStreamsEnd {S : Type 0} (s t : State S) (streams : Streams) : Type 0 where
  pub ended : IsTreeEnd s t
  pub kept : StreamsKeep (λ future. is_plain t.loop.parts future ≡ true) streams
  pub times : (future : ℕ)
      → times_kept future streams ≤ times_kept future s.streams + made_in (next_future s.loop.parts) (next_future t.loop.parts) future
  pub asked : (future : ℕ)
      → times_asked future streams ≤ times_asked future s.streams + made_in (next_future s.loop.parts) (next_future t.loop.parts) future
  pub servers : length s.streams.servers ≤ length streams.servers
  pub connections : length s.streams.connections ≤ length streams.connections
  pub children : length s.streams.children ≤ length streams.children
