-- What a callback or a request does, in order: it asks the outside, and goes on by the answer; it changes futures and
-- handles of the loop; and it ends with a result. Nothing but the answers decides what is asked next.
-- Source: `events.py`, `call_soon`; `futures.py`, `set_result` and `set_exception`, unless the future is done.
use Rattle.std.specs.Prelude.{ℕ, List, [], ◌∷◌}
use Rattle.model_value.specs.Action.{Action}
use Rattle.model_value.specs.Value.{Outcome}
use Rattle.model_wire.specs.Call.{Call, Answer}

pub data Change : Type 0 where
  -- a future is made, with the next number
  MakeFuture : Change
  -- a handle is appended
  CallSoon : (action : Action) → Change
  -- a future gets its outcome, unless it is done
  Settle : (future : ℕ) (outcome : Outcome) → Change

pub data Doing (A : Type 0) : Type 0 where
  Ends : (result : A) → Doing A
  Changes : (change : Change) (rest : Doing A) → Doing A
  Asks : (call : Call) (rest : Answer → Doing A) → Doing A

-- one thing done after another
abbrev pub and_then : {A B : Type 0} → Doing A → (A → Doing B) → Doing B
and_then (Ends result) next = next result
and_then (Changes change rest) next = Changes change (and_then rest next)
and_then (Asks call rest) next = Asks call (λ answer. and_then (rest answer) next)

-- asks, whatever the answer
abbrev pub asks : {A : Type 0} → Call → Doing A → Doing A
asks call rest = Asks call (λ answer. rest)

-- futures get an outcome, in order
abbrev pub settles : {A : Type 0} → List ℕ → Outcome → Doing A → Doing A
settles [] outcome rest = rest
settles (future ∷ futures) outcome rest = Changes (Settle future outcome) (settles futures outcome rest)

-- ---- what is done to a part
-- a part of a whole: how it is got, and how it is put back
pub record Part (Whole Inner : Type 0) : Type 0 where
  pub get : Whole → Inner
  pub put : Inner → Whole → Whole

-- a part changes
abbrev pub on : {Whole Inner : Type 0} → Part Whole Inner → (Inner → Doing Inner) → Whole → Doing Whole
on part change whole = and_then (change (part.get whole)) (λ after. Ends (part.put after whole))

-- a part changes, with an answer
abbrev pub asked_on : {Whole Inner A : Type 0} → Part Whole Inner → (Inner → Doing (Inner × A)) → Whole → Doing (Whole × A)
asked_on part change whole = and_then (change (part.get whole)) (λ done. Ends (part.put done.0 whole, done.1))
