-- What waits come to as they are over.
use Rattle.std.specs.Prelude.{ℕ, ◌-◌, ◌==◌, ◌||◌, Bool, false, true, List, [], ◌∷◌, ◌++◌, Option, None, filter}
use Rattle.std.specs.Option.{option_map_or}
use Rattle.model_value.specs.Input.{Input}
use Rattle.model_value.specs.Value.{Items, Outcome, Value, values}
use Rattle.model_loop.specs.Parts.{Parts}
use Rattle.model_machine.specs.Extra.{ExtraSaid, Uncancels}
use Rattle.model_reach.specs.Part.{key_at, passes}
use Rattle.model_gather.specs.Gathered.{AllCompleted, Argument, Expired, Finished, FirstCompleted, FirstException, Gathered, TimedWait, WaitMode, WaitsFor}
use Rattle.model_gather.specs.Gathered.{drawn_at, gather_part, values_of}
use Rattle.model_gather.specs.Wait.{is_failure, revoked}
use Rattle.model_gather.specs.WaitFor.{wait_for_says}
use Rattle.aio_gather.specs.Requested.{is_wanted}

-- whether a wait is over by an argument that ended so
abbrev pub is_over_by : WaitMode → Outcome → Bool
is_over_by mode outcome = elim mode [ AllCompleted ↦ false | FirstCompleted ↦ true | FirstException ↦ is_failure outcome ]

-- whether it is, of which so many weren't counted before
abbrev pub is_over_now : WaitMode → (left : ℕ) → Option Outcome → Bool
is_over_now mode left ended = option_map_or (λ outcome. (left - 1 == 0) || is_over_by mode outcome) ended false

-- the values of those arguments that are pending, or of those that are not
abbrev pub values_where : Bool → Parts → List Argument → Value
values_where pending p arguments = Items (values (values_of (filter (λ it. is_wanted pending p it.future) arguments)))

abbrev pub list_of_two : Value → Value → Value
list_of_two first second = Items (values (first ∷ second ∷ []))

-- a `wait_for` whose task goes on after its time was over, or before
abbrev pub expired_so : (place : ℕ) → Input → TimedWait → Parts → Gathered → ExtraSaid Gathered
expired_so place input it p kept =
    record {
      call = record {
        state = drawn_at place (WaitsFor (record it { state = Expired })) kept;
        steps = revoked it.timer ++ Uncancels (key_at gather_part place) it.task ∷ [];
      };
      answer = wait_for_says input it p;
    }

abbrev pub finished_so : (place : ℕ) → Input → TimedWait → Gathered → ExtraSaid Gathered
finished_so place input it kept =
    record {
      call = record {
        state = drawn_at place (WaitsFor (record it { state = Finished; timer = None })) kept;
        steps = revoked it.timer;
      };
      answer = passes input;
    }
