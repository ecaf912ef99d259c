-- What one call of `pump_in` did. What is said of bytes says something where the sink tells what it took.
use Rattle.std.specs.Prelude.{◌≡◌, ℕ, ◌+◌, ◌<◌, List, [], ◌∷◌, ◌++◌, length, Option, Some, None, ◌⊎◌}
use Rattle.model_wire.specs.Told.{Rose, SinkSeen, SinkFailed, grown, took}
use Rattle.model_pump.specs.Posts.{PostKind}
use Rattle.model_pump.specs.declared.post.PostKind.TheVariants.{Room, Broken, Starved}
use Rattle.model_pump.specs.Commands.{Command}
use Rattle.model_pump.specs.declared.command.Command.TheVariants.{Go, Write, Close, Stop}
use Rattle.aio_lane.specs.Ends.{TailSeen}
use Rattle.aio_pump.specs.declared.report.Ending.{Ending}
use Rattle.aio_pump.specs.declared.report.Ending.TheVariants.{Ended, Stopped, Failed, Spent, Memory}
use Rattle.aio_pump.specs.Moments.{Moment, Posts, IsSpent, told}
use Rattle.aio_pump.specs.Received.{took_all, writes, IsLast, joined}

-- a Room for each of these
abbrev pub rooms : List (List ℕ) → List PostKind
rooms [] = []
rooms (bytes ∷ others) = Room ∷ rooms others

-- after these Writes came one of which a part was written and the rest was not
abbrev pub BreaksOff : List Command → List (List ℕ) → List ℕ → List ℕ → Type 0
BreaksOff received whole part rest = writes received ≡ whole ++ (part ++ rest) ∷ []

-- each Write was written whole: the pump ended while it wrote nothing
abbrev pub AllWhole : List Command → List (List ℕ) → List ℕ → Type 0
AllWhole received whole part = (part ≡ []) × (writes received ≡ whole)

-- a Write was broken off before its end, or each was written whole
abbrev pub CutsShort : List Command → List (List ℕ) → List ℕ → Type 0
CutsShort received whole part =
    ((rest : List ℕ) × (0 < length rest) × BreaksOff received whole part rest) ⊎ AllWhole received whole part

-- How the call ended, by the Writes that were written whole, the part that was written of one more, and the last post
-- where it is no Room. A Write that is broken off is not whole, but where its Room found the poster spent.
abbrev pub EndsIn : Moment SinkSeen → Moment SinkSeen → List Command → List (List ℕ) → List ℕ → List PostKind → Ending → Type 0
EndsIn before after received whole part last Ended =
    (last ≡ []) × AllWhole received whole part × IsLast Close received × (after.served.faults ≡ before.served.faults)
EndsIn before after received whole part last Stopped =
    (last ≡ []) × AllWhole received whole part × IsLast Stop received × (after.served.faults ≡ before.served.faults)
EndsIn before after received whole part last Failed =
    (last ≡ Broken ∷ []) × Rose before.served.faults after.served.faults × CutsShort received whole part
EndsIn before after received whole part last Spent =
    (last ≡ []) × IsSpent after.poster × ((after.served.faults ≡ before.served.faults) ⊎ Rose before.served.faults after.served.faults)
    × (((rest : List ℕ) × BreaksOff received whole part rest) ⊎ AllWhole received whole part)
EndsIn before after received whole part last Memory =
    (last ≡ Starved ∷ []) × (after.served.faults ≡ before.served.faults) × CutsShort received whole part

-- The sink took the Writes in order, whole but perhaps for the last, and nothing else; the posts are a Room for each that
-- was written whole, and then the last one.
pub record PumpedIn (tail : TailSeen) (before after : Moment SinkSeen) (back : Option TailSeen) (ending : Ending) : Type 0 where
  pub received : List Command
  pub whole : List (List ℕ)
  pub part : List ℕ
  pub last : List PostKind
  pub returned : back ≡ Some (took_all tail received)
  pub posts : Posts (rooms whole ++ last) before after
  pub taken : after.served.taken ≡ grown before.served.taken (joined whole ++ part)
  pub moves : after.moved ≡ told (length (joined whole ++ part))
  pub ends : EndsIn before after received whole part last ending

-- ---- what one command did: where the pump goes on, and where it ends
abbrev pub Writes : List ℕ → Moment SinkSeen → Moment SinkSeen → Option Ending → Type 0
Writes bytes before after None =
    Posts (Room ∷ []) before after × (after.served ≡ took before.served bytes)
    × (after.moved ≡ told (before.moved + length bytes))
Writes bytes before after (Some Failed) =
    (part : List ℕ) × (rest : List ℕ) × (bytes ≡ part ++ rest) × (0 < length rest) × Posts (Broken ∷ []) before after
    × SinkFailed part before.served after.served × (after.moved ≡ told (before.moved + length part))
Writes bytes before after (Some Memory) =
    (part : List ℕ) × (rest : List ℕ) × (bytes ≡ part ++ rest) × (0 < length rest) × Posts (Starved ∷ []) before after
    × (after.served ≡ took before.served part) × (after.moved ≡ told (before.moved + length part))
Writes bytes before after (Some Spent) =
    (part : List ℕ) × (rest : List ℕ) × (bytes ≡ part ++ rest) × Posts [] before after × IsSpent before.poster
    × (after.served.taken ≡ grown before.served.taken part)
    × ((after.served.faults ≡ before.served.faults) ⊎ Rose before.served.faults after.served.faults)
    × (after.moved ≡ told (before.moved + length part))
Writes bytes before after (Some Ended) = ⊥
Writes bytes before after (Some Stopped) = ⊥

abbrev pub ObeysIn : Command → Moment SinkSeen → Moment SinkSeen → Option Ending → Type 0
ObeysIn Go before after end = (end ≡ None) × (after ≡ before)
ObeysIn (Write bytes) before after end = Writes bytes before after end
ObeysIn Close before after end = (end ≡ Some Ended) × (after ≡ before)
ObeysIn Stop before after end = (end ≡ Some Stopped) × (after ≡ before)

-- A look at the sink while no command came, and the post after it. Nothing was written.
abbrev pub Looks : Moment SinkSeen → Moment SinkSeen → Option Ending → Type 0
Looks before after None =
    Posts [] before after × (after.served ≡ took before.served []) × (after.moved ≡ before.moved)
Looks before after (Some Failed) =
    Posts (Broken ∷ []) before after × SinkFailed [] before.served after.served × (after.moved ≡ before.moved)
Looks before after (Some Memory) =
    Posts (Starved ∷ []) before after × (after.served ≡ before.served) × (after.moved ≡ before.moved)
Looks before after (Some Spent) =
    Posts [] before after × IsSpent before.poster
    × ((after.served ≡ before.served) ⊎ SinkFailed [] before.served after.served) × (after.moved ≡ before.moved)
Looks before after (Some Ended) = ⊥
Looks before after (Some Stopped) = ⊥

-- one turn: a command came and was obeyed, or none came and the sink was looked at
abbrev pub ActsIn : Option Command → Moment SinkSeen → Moment SinkSeen → Option Ending → Type 0
ActsIn (Some command) before after end = ObeysIn command before after end
ActsIn None before after end = Looks before after end
