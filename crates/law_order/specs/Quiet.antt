-- Which losses of connections and children are pending, and changes of the loop that schedule none.
use Rattle.std.specs.Prelude.{◌≡◌, ◌≤◌, ℕ, Bool, true, false}
use Rattle.std.specs.List.{count_by}
use Rattle.model_value.specs.declared.action.Action.TheVariants as action
use Rattle.model_value.specs.Action.{Action}
use Rattle.model_wire.specs.declared.event.Handed.{Handed}
use Rattle.model_loop.specs.Entries.{entries}
use Rattle.model_loop.specs.Parts.{Parts}
use Rattle.model_loop.specs.Totals.{callbacks_of}
use Rattle.model_stream.specs.Doing.{CallSoon}
use Rattle.law_changes.specs.Changes.{PartsChange, CallsSoon, CallsLater, Registers, LeavesPending}
use Rattle.law_stream.specs.Ways.{is_loss}

abbrev pub is_a_loss : Action → Bool
is_a_loss (action.Lost conn broken) = true
is_a_loss (action.LostChild child broken) = true
is_a_loss _ = false

-- how many callbacks of a kind are to come: handles that aren't dead, and timers
abbrev pub pending_of : (counts : Action → Bool) → Parts → ℕ
pending_of counts p = entries (λ tag it. counts it) p

-- a kind of losses alone
abbrev pub IsOfLosses : (counts : Action → Bool) → Type 0
IsOfLosses counts = (it : Action) → counts it ≡ true → is_a_loss it ≡ true

-- how many losses of one are to come
abbrev pub losses_pending : Handed → Parts → ℕ
losses_pending whom p = pending_of (λ it. is_loss whom (CallSoon it)) p

-- none is registered on a future
abbrev pub RegistersNone : Parts → Type 0
RegistersNone p = (id : ℕ) → count_by is_a_loss (callbacks_of p id) ≡ 0

-- after something that schedules and registers no loss: of no kind of them are more to come
pub record IsQuiet (p q : Parts) : Type 0 where
  pub registers : RegistersNone p → RegistersNone q
  pub pending : RegistersNone p → (counts : Action → Bool) → IsOfLosses counts → pending_of counts q ≤ pending_of counts p

-- where a change does so; a handle that is taken out is told of apart, since it runs
abbrev pub MayQuietParts : PartsChange → Parts → Type 0
MayQuietParts (CallsSoon it) p = is_a_loss it ≡ false
MayQuietParts (CallsLater when it) p = is_a_loss it ≡ false
MayQuietParts (Registers future it) p = is_a_loss it ≡ false
MayQuietParts (LeavesPending rest) p = ⊥
MayQuietParts _ p = Unit {0}
