-- What `gather`, `wait`, `shield` and `wait_for` keep: for each key that was drawn, in order, the request or the handle that it
-- was drawn for. Source: the library reference, "Coroutines and Tasks"; `tasks.py`.
use Rattle.std.specs.Prelude.{ℕ, suc, ◌==◌, Bool, not, List, [], ◌∷◌, ◌++◌, Option, Some, None, filter, length, map, slice_set}
use Rattle.std.specs.List.{flat_map}
use Rattle.std.specs.Option.{option_map_or}
use Rattle.model_value.specs.Value.{Value, Nothing, Outcome}
use Rattle.model_value.specs.declared.outcome.Outcome.TheVariants.{Value as Returned}
use Rattle.model_machine.specs.Arguments.{as_awaited}
use Rattle.model_machine.specs.Extra.{ExtraAnswer, ExtraSaid, ExtraStep, Keeping, Registers, Settles}
use Rattle.model_machine.specs.State.{State}
use Rattle.model_reach.specs.Part.{drawing, key_at, was_drawn}

-- ---- requests
-- A gather: its future, which stands for its members; the future of each argument, in order; whether exceptions are items of the
-- answer; and how many of its members aren't counted yet.
pub record Gathering : Type 0 where
  pub outer : ℕ
  pub awaited : List ℕ
  pub as_items : Bool
  pub left : ℕ

-- when a `wait` is over: `return_when`
pub data WaitMode : Type 0 where
  AllCompleted : WaitMode
  FirstCompleted : WaitMode
  FirstException : WaitMode

-- an argument, and the future that it names
pub record Argument : Type 0 where
  pub value : Value
  pub future : ℕ

-- A wait: the future that it waits on, its distinct arguments in order, when it is over, how many of them aren't counted yet, and
-- the tag of its timer, if it has one.
pub record Waiting : Type 0 where
  pub on : ℕ
  pub arguments : List Argument
  pub mode : WaitMode
  pub left : ℕ
  pub timer : Option ℕ

pub data TimedState : Type 0 where
  -- its time isn't over, or it has none
  Timed : TimedState
  -- its time is over, and its task's cancel was asked for
  Expiring : TimedState
  -- its task went on after that, or before
  Expired : TimedState
  Finished : TimedState

-- a `wait_for`: its task, how many cancels that counted as it began, and the tag of its timer, if it has one
pub record TimedWait : Type 0 where
  pub task : ℕ
  pub stored : ℕ
  pub timer : Option ℕ
  pub state : TimedState

pub data Drawn : Type 0 where
  -- a request that was answered as it was asked
  Answered : Drawn
  Gathers : (it : Gathering) → Drawn
  Waits : (it : Waiting) → Drawn
  -- a shield waits on a future of its own
  Shields : (on : ℕ) → Drawn
  WaitsFor : (it : TimedWait) → Drawn
  -- a handle of the request at this place: this future is done, or the time is over
  Tells : (place future : ℕ) → Drawn
  Rings : (place : ℕ) → Drawn

-- the part's number, of which its keys are
abbrev pub gather_part : ℕ
gather_part = 0

-- What its keys were drawn for.
pub record Gathered : Type 0 where
  pub drawn : List Drawn

-- nothing was asked
abbrev pub none_gathered : Gathered
none_gathered = record { drawn = [] }

abbrev pub drawn_after : List Drawn → Gathered → Gathered
drawn_after more kept = record kept { drawn = kept.drawn ++ more }

abbrev pub drawn_at : (place : ℕ) → Drawn → Gathered → Gathered
drawn_at place it kept = record kept { drawn = slice_set kept.drawn place it }

-- so many keys are drawn for a request
abbrev pub draws : (more : ℕ) → ExtraSaid Gathered → Gathered → ExtraSaid Gathered
draws more said kept = drawing gather_part (length kept.drawn) more said kept

-- a request that is answered as it is asked draws one
abbrev pub at_once : ExtraAnswer → Gathered → ExtraSaid Gathered
at_once answer kept =
    draws 1 (record { call = record { state = drawn_after (Answered ∷ []) kept; steps = [] }; answer = answer }) kept

-- the key of the next request
abbrev pub next_key : Gathered → ℕ
next_key kept = key_at gather_part (length kept.drawn)

-- ---- arguments
-- the futures of what is awaited, where all of it is
abbrev pub as_all_awaited : {S : Type 0} → State S → List Value → Option (List ℕ)
as_all_awaited s [] = Some []
as_all_awaited s (x ∷ xs) =
    elim (as_awaited s x) [
      | None ↦ None
      | Some id ↦ elim (as_all_awaited s xs) [ None ↦ None | Some ids ↦ Some (id ∷ ids) ]
    ]

-- each with the future that it names
abbrev pub paired : List Value → List ℕ → List Argument
paired (x ∷ xs) (id ∷ ids) = record { value = x; future = id } ∷ paired xs ids
paired _ _ = []

-- each once, where it comes first
abbrev pub distinct : List ℕ → List ℕ
distinct [] = []
distinct (id ∷ ids) = id ∷ filter (λ other. not (other == id)) (distinct ids)

abbrev pub distinct_arguments : List Argument → List Argument
distinct_arguments [] = []
distinct_arguments (it ∷ others) = it ∷ filter (λ other. not (other.future == it.future)) (distinct_arguments others)

abbrev pub futures_of : List Argument → List ℕ
futures_of those = map (λ it. it.future) those

abbrev pub values_of : List Argument → List Value
values_of those = map (λ it. it.value) those

-- ---- handles
-- a handle on each of these futures, with keys from this place on
abbrev pub registered_from : (part place : ℕ) → List ℕ → List ExtraStep
registered_from part place [] = []
registered_from part place (id ∷ ids) = Registers id (key_at part place) ∷ registered_from part (suc place) ids

-- a future gets this outcome, if there is one
abbrev pub settled_as : Option Outcome → (future : ℕ) → List ExtraStep
settled_as None future = []
settled_as (Some outcome) future = Settles future outcome ∷ []

-- so that its task goes on
abbrev pub resolved : Outcome
resolved = Returned Nothing

-- ---- what it keeps
abbrev pub task_in : Drawn → List ℕ
task_in (WaitsFor it) = it.task ∷ []
task_in _ = []

abbrev pub futures_in : Drawn → List ℕ
futures_in (Gathers it) = it.awaited
futures_in (Waits it) = futures_of it.arguments
futures_in (Tells place future) = future ∷ []
futures_in _ = []

abbrev pub own_in : Drawn → List ℕ
own_in (Gathers it) = it.outer ∷ []
own_in (Waits it) = it.on ∷ []
own_in (Shields on) = on ∷ []
own_in _ = []

abbrev pub tag_in : Drawn → List ℕ
tag_in (Waits it) = option_map_or (λ tag. tag ∷ []) it.timer []
tag_in (WaitsFor it) = option_map_or (λ tag. tag ∷ []) it.timer []
tag_in _ = []

abbrev pub values_in : Drawn → List Value
values_in (Waits it) = values_of it.arguments
values_in _ = []

abbrev pub gather_keeps : Gathered → Keeping
gather_keeps kept =
    record {
      tasks = flat_map task_in kept.drawn;
      futures = flat_map futures_in kept.drawn;
      own = flat_map own_in kept.drawn;
      tags = flat_map tag_in kept.drawn;
      values = flat_map values_in kept.drawn;
      has_key = was_drawn gather_part (length kept.drawn);
    }
