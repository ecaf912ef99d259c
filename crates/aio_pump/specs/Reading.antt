-- What one call of `pump_out` did. What is said of bytes says something where the source tells what it has left.
use Rattle.std.specs.Prelude.{◌≡◌, ℕ, ◌+◌, ◌≤◌, List, [], ◌∷◌, ◌++◌, length, All, Option, Some, None, ◌⊎◌}
use mathlib.Core.List.{IsPrefix}
use Rattle.model_wire.specs.Told.{Agrees, Rose, SourceSeen}
use Rattle.model_pump.specs.declared.stream.Stream.{Stream}
use Rattle.model_pump.specs.Posts.{PostKind}
use Rattle.model_pump.specs.declared.post.PostKind.TheVariants.{Piece, End, Fault, Starved}
use Rattle.model_pump.specs.Commands.{Command}
use Rattle.model_pump.specs.declared.command.Command.TheVariants.{Go, Write, Close, Stop}
use Rattle.aio_lane.specs.Ends.{TailSeen}
use Rattle.aio_pump.specs.declared.report.Ending.{Ending}
use Rattle.aio_pump.specs.declared.report.Ending.TheVariants.{Ended, Stopped, Failed, Spent, Memory}
use Rattle.aio_pump.specs.Moments.{Moment, Posts, IsSpent, told}
use Rattle.aio_pump.specs.Received.{took_all, gos, IsLast, joined}

-- the posts of these parts of a stream, the first of them at this place
abbrev pub pieces : Stream → ℕ → List (List ℕ) → List PostKind
pieces stream at [] = []
pieces stream at (part ∷ parts) = Piece stream (told at) part ∷ pieces stream (at + length part) parts

-- a piece has a byte, and at most so many
abbrev pub IsPiece : List ℕ → Type 0
IsPiece part = (1 ≤ length part) × (length part ≤ 65536)

-- between two moments a source gave these bytes, and its count of faults did not fall
abbrev pub Gave : SourceSeen → List ℕ → SourceSeen → Type 0
Gave old bytes new = ((rest : List ℕ) → Agrees new.left rest → Agrees old.left (bytes ++ rest)) × (old.faults ≤ new.faults)

-- How the call ended, by the parts that were posted, the bytes that the source gave, and the last post where it is no
-- piece. Each Go but the last was answered by a piece; the last too, where the pump ends at Close or Stop.
abbrev pub EndsOut : Stream → Moment SourceSeen → Moment SourceSeen → List Command → List (List ℕ) → List ℕ → List PostKind
    → Ending → Type 0
EndsOut stream before after received parts given last Ended =
    (given ≡ joined parts)
    × (((last ≡ []) × IsLast Close received × (length parts ≡ gos received))
    ⊎ ((last ≡ End stream ∷ []) × Agrees after.served.left [] × IsLast Go received × (length parts + 1 ≡ gos received)))
EndsOut stream before after received parts given last Stopped =
    (given ≡ joined parts) × (last ≡ []) × IsLast Stop received × (length parts ≡ gos received)
EndsOut stream before after received parts given last Failed =
    (given ≡ joined parts) × (last ≡ Fault ∷ []) × Rose before.served.faults after.served.faults
    × IsLast Go received × (length parts + 1 ≡ gos received)
EndsOut stream before after received parts given last Spent =
    (last ≡ []) × IsSpent after.poster × IsLast Go received × (length parts + 1 ≡ gos received)
EndsOut stream before after received parts given last Memory =
    (given ≡ joined parts) × (last ≡ Starved ∷ []) × IsLast Go received × (length parts + 1 ≡ gos received)

-- The posts are the parts in order, each at its offset, and then the last one. The parts, joined, are a prefix of what the
-- source gave in this call.
pub record PumpedOut (stream : Stream) (tail : TailSeen) (before after : Moment SourceSeen) (back : Option TailSeen)
    (ending : Ending) : Type 0 where
  pub received : List Command
  pub parts : List (List ℕ)
  pub given : List ℕ
  pub last : List PostKind
  pub returned : back ≡ Some (took_all tail received)
  pub posts : Posts (pieces stream 0 parts ++ last) before after
  pub sized : All IsPiece parts
  pub gave : Gave before.served given after.served
  pub prefix : IsPrefix (joined parts) given
  pub moves : after.moved ≡ told (length (joined parts))
  pub ends : EndsOut stream before after received parts given last ending

-- ---- what one command did: where the pump goes on, and where it ends
abbrev pub Goes : Stream → Moment SourceSeen → Moment SourceSeen → Option Ending → Type 0
Goes stream before after None =
    (part : List ℕ) × Posts (Piece stream before.moved part ∷ []) before after
    × (after.moved ≡ told (before.moved + length part)) × Gave before.served part after.served × IsPiece part
Goes stream before after (Some Ended) =
    Posts (End stream ∷ []) before after × (after.moved ≡ before.moved)
    × (after.served.left ≡ before.served.left) × (before.served.faults ≤ after.served.faults) × Agrees after.served.left []
Goes stream before after (Some Failed) =
    Posts (Fault ∷ []) before after × (after.moved ≡ before.moved)
    × (after.served.left ≡ before.served.left) × (before.served.faults ≤ after.served.faults)
    × Rose before.served.faults after.served.faults
Goes stream before after (Some Memory) =
    Posts (Starved ∷ []) before after × (after.moved ≡ before.moved) × (after.served ≡ before.served)
Goes stream before after (Some Spent) =
    Posts [] before after × (after.moved ≡ before.moved) × IsSpent before.poster
    × ((part : List ℕ) × Gave before.served part after.served)
Goes stream before after (Some Stopped) = ⊥

abbrev pub ObeysOut : Stream → Command → Moment SourceSeen → Moment SourceSeen → Option Ending → Type 0
ObeysOut stream Go before after end = Goes stream before after end
ObeysOut stream (Write bytes) before after end = (end ≡ None) × (after ≡ before)
ObeysOut stream Close before after end = (end ≡ Some Ended) × (after ≡ before)
ObeysOut stream Stop before after end = (end ≡ Some Stopped) × (after ≡ before)
