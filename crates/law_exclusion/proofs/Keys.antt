-- Keys of a part, and that waits for several wait under theirs.
use Rattle.std.proofs.Common.{◌≡◌, ℕ, ℤ, ◌+◌, Bool, true, false, List, [], ◌∷◌, Option, Some, None, Ok, Err, refl, ap, arith, length}
use Rattle.std.specs.Prelude.{Result, ◌-◌, not, slice_get, ◌%◌, ◌==◌, ◌&&◌, if◌then◌else◌, filter, nat_le}
use Rattle.std.proofs.lemmas.Bool.{eq-eqb, eqb-true}
use Rattle.model_value.specs.Input.{Input}
use Rattle.model_value.specs.declared.input.Input.TheVariants.{Send, Throw}
use Rattle.model_value.specs.Value.{Exc, Items, Outcome, Value, values}
use Rattle.model_loop.specs.Futures.{future_outcome, is_pending}
use Rattle.model_loop.specs.Parts.{Parts}
use Rattle.model_loop.specs.Tasks.{cancelling}
use Rattle.model_loop.specs.Timeouts.{timeout_exception}
use Rattle.model_says.specs.Operations.{bounded, out_of_range}
use Rattle.model_machine.specs.Extra as extra
use Rattle.model_machine.specs.Extra.{ExtraAnswer, ExtraSaid, no_extra}
use Rattle.model_machine.specs.Outcomes.{input_of}
use Rattle.model_machine.specs.State.{State}
use Rattle.model_reach.specs.Part.{can_draw, key_at, passes, place_of, refuses}
use Rattle.model_reach.specs.Reach.{OfDgram, OfExec, OfGather, OfSync, Part, part_of_key}
use Rattle.model_sync.specs.Synced.{sync_part}
use Rattle.model_gather.specs.Gathered.{Answered, Argument, Drawn, Expired, Expiring, Finished, Gathered, Gathers, Rings, Shields, Tells, Timed, TimedState}
use Rattle.model_gather.specs.Gathered.{TimedWait, WaitMode, Waiting, Waits, WaitsFor, at_once, distinct, drawn_after, draws, gather_part}
use Rattle.model_gather.specs.Gathered.{values_of}
use Rattle.model_gather.specs.Gather.{gather, gather_all}
use Rattle.model_gather.specs.Serving.{OfGather as AsksGather, OfShield, OfWait, OfWaitFor, Request, Wanted, asked, gather_means, requested, serve, served}
use Rattle.model_gather.specs.Serving.{wanted_of, woken}
use Rattle.model_gather.specs.Shield.{shield, shield_open}
use Rattle.model_gather.specs.Wait.{one_if_some, wait, wait_all, wait_says}
use Rattle.model_gather.specs.WaitFor.{bad_timeout, cancels_in, may_time, wait_for, wait_for_all, wait_for_says, wait_for_woken}
use Rattle.law_exclusion.specs.Beside.{WaitsAs, WaitsUnderItsKeys}

-- ---- keys of locks, events and queues
pub of_sync : (key : ℕ) → part_of_key key ≡ OfSync → key % 4 ≡ 1
of_sync key is = eqb-true (key % 4) 1 (at (key % 4 == 0) (key % 4 == 1) (key % 4 == 2) is)
  where
    at : (a b c : Bool) → (if a then OfGather else (if b then OfSync else (if c then OfExec else OfDgram))) ≡ OfSync → b ≡ true
    at true b c e = absurd (cc)
    at false true c e = refl
    at false false true e = absurd (cc)
    at false false false e = absurd (cc)

pub same_key : (one other : ℕ) → part_of_key one ≡ OfSync → part_of_key other ≡ OfSync → place_of sync_part one ≡ place_of sync_part other
    → one ≡ other
same_key one other is_one is_other same =
    let a = of_sync one is_one in
    let b = of_sync other is_other in
    omega (arith, a, b, same)

pub place_at : (place : ℕ) → place_of sync_part (key_at sync_part place) ≡ place
place_at place = omega arith

pub key_sync : (place : ℕ) → part_of_key (key_at sync_part place) ≡ OfSync
key_sync place =
    let one : key_at sync_part place % 4 ≡ 1 = omega arith in
    ap (λ n. if n == 0 then OfGather else (if n == 1 then OfSync else (if n == 2 then OfExec else OfDgram))) one

-- ---- a part that isn't there
pub missing_waits : (part : Part) → WaitsUnderItsKeys part no_extra
missing_waits part = record { ask = λ task code arguments s. tt; wake = λ key input s here. tt }

-- ---- waits for several
abbrev Fine : ExtraAnswer → Type 0
Fine answer = WaitsAs OfGather answer

passes_fine : (input : Input) → Fine (passes input)
passes_fine (Send value) = tt
passes_fine (Throw fault) = tt

key_fine : (place : ℕ) → part_of_key (key_at gather_part place) ≡ OfGather
key_fine place =
    let none : key_at gather_part place % 4 ≡ 0 = omega arith in
    ap (λ is. if is then OfGather else (if key_at gather_part place % 4 == 1 then OfSync
    else (if key_at gather_part place % 4 == 2 then OfExec else OfDgram))) (eq-eqb (key_at gather_part place % 4) 0 none)

module _ (p : Parts) (kept : Gathered) where
  draws_fine : (more : ℕ) (said : ExtraSaid Gathered) → Fine said.answer → Fine (draws more said kept).answer
  draws_fine more said fine = at (can_draw gather_part (length kept.drawn) more)
    where
      at : (b : Bool) → Fine (ExtraSaid.answer (if b then said else refuses out_of_range kept))
      at true = fine
      at false = tt

  once_fine : (answer : ExtraAnswer) → Fine answer → Fine (at_once answer kept).answer
  once_fine answer fine = at (can_draw gather_part (length kept.drawn) 1)
    where
      at : (b : Bool) → Fine (ExtraSaid.answer (if b then record {
        call = record { state = drawn_after (Answered ∷ []) kept; steps = [] };
        answer = answer;
      } else refuses out_of_range kept))
      at true = fine
      at false = tt

  gather_fine : (as_items : Bool) (awaited : List ℕ) → Fine (gather as_items awaited p kept).answer
  gather_fine as_items [] = once_fine _ tt
  gather_fine as_items (id ∷ ids) =
      let members = distinct (id ∷ ids) in
      draws_fine (1 + length (filter (is_pending p) members)) (gather_all as_items (id ∷ ids) members p kept) (key_fine (length kept.drawn))

  wait_fine : (over : Option WaitMode) (delay : Option ℤ) (arguments : List Argument) → Fine (wait over delay arguments p kept).answer
  wait_fine over delay [] = once_fine _ tt
  wait_fine None delay (it ∷ others) = once_fine _ tt
  wait_fine (Some mode) delay (it ∷ others) = draws_fine _ (wait_all mode delay _ p kept) (key_fine (length kept.drawn))

  shield_fine : (inner : ℕ) → Fine (shield inner p kept).answer
  shield_fine inner = at (future_outcome p inner)
    where
      at : (o : Option Outcome)
          → Fine (ExtraSaid.answer (elim o [
            | Some outcome ↦ at_once (passes (input_of outcome)) kept
            | None ↦ draws 2 (shield_open inner p kept) kept
          ]))
      at (Some outcome) = once_fine (passes (input_of outcome)) (passes_fine (input_of outcome))
      at None = draws_fine 2 (shield_open inner p kept) (key_fine (length kept.drawn))

  wait_for_fine : (task on : ℕ) (delay : Option ℤ) → Fine (wait_for task on delay p kept).answer
  wait_for_fine task on delay = at (may_time delay)
    where
      at : (b : Bool)
          → Fine (ExtraSaid.answer (if b then draws (1 + one_if_some delay) (wait_for_all task on delay p kept) kept
          else at_once (extra.Raises bad_timeout) kept))
      at true = draws_fine (1 + one_if_some delay) (wait_for_all task on delay p kept) (key_fine (length kept.drawn))
      at false = once_fine (extra.Raises bad_timeout) tt

  serve_fine : (it : Request) (task : ℕ) → Fine (serve it task p kept).answer
  serve_fine (AsksGather as_items awaited) task = gather_fine as_items awaited
  serve_fine (OfWait over delay arguments) task = wait_fine over delay arguments
  serve_fine (OfShield inner) task = shield_fine inner
  serve_fine (OfWaitFor on delay) task = wait_for_fine task on delay

  served_fine : (o : Option Request) (task : ℕ) → Fine (served o task p kept).answer
  served_fine None task = tt
  served_fine (Some it) task = serve_fine it task

  -- ---- as it goes on
  sorted_fine : (o : Result Value Exc) → Fine (elim o [ Ok value ↦ extra.Answers value | Err exception ↦ extra.Raises exception ])
  sorted_fine (Ok value) = tt
  sorted_fine (Err fault) = tt

  says_fine : (input : Input) (it : Waiting) → Fine (wait_says input it p)
  says_fine (Send value) it =
      sorted_fine (bounded (Items (values (
      Items (values (values_of (filter (λ a. not (is_pending p a.future)) it.arguments)))
      ∷ Items (values (values_of (filter (λ a. is_pending p a.future) it.arguments))) ∷ []
      ))))
  says_fine (Throw fault) it = tt

  timed_fine : (input : Input) (it : TimedWait) → Fine (wait_for_says input it p)
  timed_fine input it = at (nat_le (cancelling p it.task - 1) it.stored && cancels_in input)
    where
      at : (b : Bool) → Fine (if b then extra.Raises timeout_exception else passes input)
      at true = tt
      at false = passes_fine input

  timed_woken : (place : ℕ) (input : Input) (it : TimedWait) → Fine (wait_for_woken place input it p kept).answer
  timed_woken place input it = at it.state
    where
      at : (state : TimedState) → Fine (wait_for_woken place input (record it { state = state }) p kept).answer
      at Timed = passes_fine input
      at Expiring = timed_fine input it
      at Expired = passes_fine input
      at Finished = passes_fine input

  woken_fine : (o : Option Drawn) (place : ℕ) (input : Input) → Fine (woken o place input p kept).answer
  woken_fine (Some (Waits it)) place input = says_fine input it
  woken_fine (Some (WaitsFor it)) place input = timed_woken place input it
  woken_fine None place input = passes_fine input
  woken_fine (Some Answered) place input = passes_fine input
  woken_fine (Some (Gathers it)) place input = passes_fine input
  woken_fine (Some (Shields on)) place input = passes_fine input
  woken_fine (Some (Tells other future)) place input = passes_fine input
  woken_fine (Some (Rings other)) place input = passes_fine input

pub gather_waits : WaitsUnderItsKeys OfGather gather_means
gather_waits = record {
  ask = λ task code arguments s. at (wanted_of code) task code arguments s;
  wake = λ key input s here. woken_fine s.loop.parts s.extra (slice_get s.extra.drawn (place_of gather_part key)) (place_of gather_part key) input;
}
  where
    at : (o : Option Wanted) (task : ℕ) (code : ℤ) (arguments : List Value) (s : State Gathered) → Fine (asked o task code arguments s).answer
    at None task code arguments s = tt
    at (Some wanted) task code arguments s = served_fine s.loop.parts s.extra (requested s wanted arguments) task
