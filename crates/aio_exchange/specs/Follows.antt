-- A call in code that does what a tree says: it asks and changes in the tree's order, and ends as the tree ends.
use Rattle.std.specs.Prelude.{◌≡◌, ℕ, List, Result, Ok, Err}
use Rattle.model_wire.specs.Call.{Answer}
use Rattle.model_stream.specs.Doing.{Change, Doing, Ends, Asks}
use Rattle.aio_wire.specs.declared.stop.Stop.{Stop}
use Rattle.aio_wire.specs.declared.stop.Stop.TheVariants as stop
use Rattle.aio_wire.specs.EventList.{EventList}
use Rattle.aio_wire.specs.Outside.{Outside}
use Rattle.aio_wire.specs.Port.{Ported}
use Rattle.aio_exchange.specs.Exchanged.{Exchanged, Last, All, Met, Starved, StopsAs}
use Rattle.aio_exchange.specs.Ways.{Move, Leads, had_on, changed_on}

-- what such a call may change beside its own: the loop's parts, as they are seen, and the port
pub record Reach (V W : Type 0) : Type 0 where
  pub parts : V
  pub port : Ported W

abbrev pub reach : {V W : Type 0} → V → W → EventList → Reach V W
reach parts wire events = record { parts = parts; port = record { wire = wire; events = events } }

-- the result of a call with what it left of its own
abbrev pub with_after : {A R : Type 0} → A → Result R Stop → Result (A × R) Stop
with_after after (Ok result) = Ok (after, result)
with_after after (Err why) = Err why

-- what a call left of its own, where it has no other result
abbrev pub after_of : {A R : Type 0} → A → Result R Stop → Result A Stop
after_of after (Ok result) = Ok after
after_of after (Err why) = Err why

-- how it ended, by what was left to do
abbrev pub EndsBy : {A : Type 0} → Last → (left : Doing A) → (count : ℕ) → Result A Stop → Type 0
EndsBy All left count (Ok result) = left ≡ Ends result
EndsBy {A} (Met call said) left count (Err why) = ((rest : Answer → Doing A) × (left ≡ Asks call rest)) × StopsAs (Met call said) count why
EndsBy Starved left count (Err why) = why ≡ stop.Memory
EndsBy _ left count _ = ⊥

-- where memory was refused nothing is said of the parts
abbrev pub UnlessStarved : Type 0 → Last → Type 0
UnlessStarved fact All = fact
UnlessStarved fact (Met call said) = fact
UnlessStarved fact Starved = Unit {0}

-- `change` is what a change makes of the parts as they are seen. The call went this way along the tree, this is left of it, and
-- the asks so far did this.
pub record Follows {A V W : Type 0} (o : Outside W) (change : Change → V → V) (doing : Doing A) (old new : Reach V W)
    (result : Result A Stop) : Type 0 where
  pub way : List Move
  pub left : Doing A
  pub last : Last
  pub leads : Leads doing way left
  pub exchanged : Exchanged o (had_on way) last old.port new.port
  pub parts : UnlessStarved (new.parts ≡ changed_on change way old.parts) last
  pub ends : EndsBy last left new.port.events.answers result
