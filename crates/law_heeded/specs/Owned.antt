-- Futures of what is added: those that it says are its own (`keeps`). Which steps settle none but these, and when nothing else holds
-- one of them.
use Rattle.std.specs.Prelude.{◌⊎◌, ℕ, ◌==◌, ◌<◌, ◌≤◌, ℤ, Bool, List}
use Rattle.std.specs.List.{AllByRecursion as Each, list_any}
use Rattle.model_value.specs.Input.{Input}
use Rattle.model_value.specs.Value.{Value}
use Rattle.model_loop.specs.Futures.{next_future}
use Rattle.model_machine.specs.Extra.{Extra, ExtraCall, ExtraStep, Settles, made_by_all}
use Rattle.model_machine.specs.State.{State}
use Rattle.law_runs.specs.Allowed.{IsAmong, IsOwn}
use Rattle.law_apart.specs.Apart.{AreBelow, IsApart}

abbrev pub is_among : List ℕ → ℕ → Bool
is_among ids id = list_any (λ other. other == id) ids

-- whether a future is one of what is added, which keeps this
abbrev pub is_own : {S : Type 0} → Extra S → S → ℕ → Bool
is_own added kept = is_among (added.keeps kept).own

-- ---- what keeps to its own
-- it was its own, or was made by the call, which made those from the first of these numbers on
abbrev pub SettlesOwn : (own : List ℕ) (first : ℕ) → ExtraStep → Type 0
SettlesOwn own first (Settles future outcome) = IsOwn own first future
SettlesOwn own first _ = Unit {0}

abbrev pub WasOwnOrMade : (own : List ℕ) (first last : ℕ) → ℕ → Type 0
WasOwnOrMade own first last id = IsAmong own id ⊎ ((first ≤ id) × (id < last))

-- A call settles futures of its own alone, and what is its own then was so or is made by the call.
pub record IsCallKept {S : Type 0} (added : Extra S) (call : ExtraCall S) (s : State S) : Type 0 where
  pub settles : Each (SettlesOwn (added.keeps s.extra).own (next_future s.loop.parts)) call.steps
  pub own : Each (WasOwnOrMade (added.keeps s.extra).own (next_future s.loop.parts) (next_future (made_by_all call.steps s.loop).parts))
      (added.keeps call.state).own

-- so is each call of it, in whatever state
pub record KeepsToItsFutures {S : Type 0} (added : Extra S) : Type 0 where
  pub ask : (task : ℕ) (code : ℤ) (arguments : List Value) (s : State S) → IsCallKept added (added.ask task code arguments s).call s
  pub wake : (key : ℕ) (input : Input) (s : State S) → IsCallKept added (added.wake key input s).call s
  pub act : (key : ℕ) (s : State S) → IsCallKept added (added.act key s) s
  pub item : (code : ℤ) (bytes : List ℕ) (s : State S) → IsCallKept added (added.item code bytes s) s

-- ---- what nothing else holds
-- Its futures were made, and the loop holds none of them: no sleep, no group, no stream, no script and no task does.
pub record AreApart {S : Type 0} (added : Extra S) (s : State S) : Type 0 where
  pub below : AreBelow (is_own added s.extra) (next_future s.loop.parts)
  pub apart : IsApart (is_own added s.extra) (next_future s.loop.parts) s
