-- What a gather's future gets as its members are counted, and what a wait and a shield answer.
use Rattle.std.specs.Prelude.{◌≡◌, ◌⊎◌, ℕ, Bool, true, false, not, List, Option, Some, None, filter, length, slice_get}
use Rattle.model_value.specs.Value.{Outcome, Value}
use Rattle.model_value.specs.declared.outcome.Outcome.TheVariants.{Cancelled}
use Rattle.model_loop.specs.Futures.{is_pending}
use Rattle.model_loop.specs.Parts.{Parts}
use Rattle.model_gather.specs.Gathered.{Argument, Gathering}
use Rattle.model_gather.specs.Gather.{is_value, item_at, items_of, result_of}

-- it has a value, or exceptions are items of the answer
abbrev pub MayGoOn : Outcome → Gathering → Type 0
MayGoOn counted now = (now.as_items ≡ true) ⊎ (is_value counted ≡ true)

-- As a member that ended so is counted; `now` is the gather with it counted. `asked` says that a cancel came to all of them.
pub data GatherGets (p : Parts) (asked : Bool) (counted : Outcome) (now : Gathering) : Option Outcome → Type 0 where
  -- it failed or was cancelled, and exceptions are raised: that is the gather's outcome, however many are left
  raises : now.as_items ≡ false → is_value counted ≡ false → GatherGets p asked counted now (Some counted)
  -- all are counted, and the gather was asked to cancel
  is_cancelled : MayGoOn counted now → now.left ≡ 0 → asked ≡ true → GatherGets p asked counted now (Some Cancelled)
  -- all are counted, and it wasn't: what each argument came to, in the order of the list, unless that is too heavy or too deep
  answers : MayGoOn counted now → now.left ≡ 0 → asked ≡ false → GatherGets p asked counted now (Some (result_of (items_of p now.awaited)))
  -- some are left: nothing yet
  waits : MayGoOn counted now → (now.left ≡ 0 → ⊥) → GatherGets p asked counted now None

-- each result stands at its argument's place
abbrev pub AreInOrder : Parts → (awaited : List ℕ) → List Value → Type 0
AreInOrder p awaited items =
    (length items ≡ length awaited)
    × ((place id : ℕ) → slice_get awaited place ≡ Some id → slice_get items place ≡ Some (item_at p id))

-- the arguments of a wait that are done as its task goes on, and those that aren't, each in order
abbrev pub done_of : Parts → List Argument → List Argument
done_of p arguments = filter (λ it. not (is_pending p it.future)) arguments

abbrev pub pending_of : Parts → List Argument → List Argument
pending_of p arguments = filter (λ it. is_pending p it.future) arguments
