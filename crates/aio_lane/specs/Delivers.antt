-- The rule of a lane's queue. What the tail received, and then what stands in the lane, is what the head gave, and at most
-- eight commands stand in it.
use Rattle.std.specs.Prelude.{◌≡◌, ℕ, ◌+◌, ◌≤◌, Bool, true, false, List, [], ◌∷◌, ◌++◌, length}
use mathlib.Core.Option.{some}
use lib.ListN.{get_elem?}
use Rattle.model_pump.specs.Commands.{Command}
use Rattle.aio_lane.specs.declared.track.Track.{Track}

abbrev pub track : Bool → Bool → List Command → List Command → ℕ → Track
track gives takes given taken fulls = record { gives = gives; takes = takes; given = given; taken = taken; fulls = fulls }

-- one pass at most gives, and it has the list of what was given; likewise of taking
pub record Fits (head tail : ℕ) (given taken : List Command) (port : ℕ) (v : Track) : Type 0 where
  pub giving : v.gives ≡ true → (port ≡ head) × (v.given ≡ given)
  pub taking : v.takes ≡ true → (port ≡ tail) × (v.taken ≡ taken)

pub record Delivers (items : List Command) (views : List Track) : Type 0 where
  -- the pass that gives, the pass that takes, all that was given, and all that was taken
  pub head : ℕ
  pub tail : ℕ
  pub given : List Command
  pub taken : List Command
  pub line : given ≡ taken ++ items
  pub few : length items ≤ 8
  pub passes : (port : ℕ) (v : Track) → get_elem? views port ≡ some v → Fits head tail given taken port v

-- ---- what each step makes of what a pass knows
-- a pass that may do nothing
abbrev pub nobody : Track
nobody = track false false [] [] 0

abbrev pub of_head : Track → Track
of_head v = track true false v.given [] v.fulls

abbrev pub of_tail : Track → Track
of_tail v = track false true [] v.taken 0

abbrev pub of_both : Track → Track → Track
of_both v w = track true true v.given w.taken v.fulls

abbrev pub with_given : Track → Command → Track
with_given v command = record v { given = v.given ++ command ∷ [] }

abbrev pub with_taken : Track → Command → Track
with_taken v command = record v { taken = v.taken ++ command ∷ [] }

-- after a give that met a full lane
abbrev pub with_full : Track → Track
with_full v = record v { fulls = v.fulls + 1 }

-- these are the last of all
abbrev pub EndsWith : List Command → List Command → Type 0
EndsWith all last = (before : List Command) × (all ≡ before ++ last)
