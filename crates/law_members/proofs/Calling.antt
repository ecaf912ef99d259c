-- What is so of all gathers and waits stays so, whatever is called of them.
use Rattle.std.proofs.Common.{◌≡◌, ◌+◌, ◌-◌, ℕ, ℤ, Bool, true, false, List, [], ◌∷◌, ◌++◌, Option, Some, None}
use Rattle.std.proofs.Common.{if◌then◌else◌, length, map, slice_get, slice_set, refl, ap, subst, ◌∙◌, arith}
use Rattle.std.proofs.Math.ListN.{length-set}
use Rattle.std.specs.List.{sum_by}
use Rattle.std.specs.Option.{option_map_or}
use Rattle.std.proofs.lemmas.List.Sums.{sum_by-append}
use Rattle.model_value.specs.Action.{Action}
use Rattle.model_value.specs.declared.action.Action.TheVariants as action
use Rattle.model_value.specs.Input.{Input}
use Rattle.model_value.specs.Value.{Items, Outcome, Value, no_values}
use Rattle.model_loop.specs.Futures.{future_outcome, next_future}
use Rattle.model_loop.specs.Loop.{Loop}
use Rattle.model_loop.specs.Parts.{Handle, Parts}
use Rattle.model_loop.specs.Tasks.{cancelling, future_of}
use Rattle.model_says.specs.Operations.{out_of_range}
use Rattle.model_machine.specs.Extra.{Answers, Cancels, ExtraAnswer, ExtraCall, ExtraSaid, ExtraStep, Raises, Uncancels}
use Rattle.model_machine.specs.Extra.{made_by_all}
use Rattle.model_machine.specs.Outcomes.{input_of}
use Rattle.model_machine.specs.State.{State}
use Rattle.model_reach.specs.Part.{can_draw, key_at, passes, refuses}
use Rattle.model_gather.specs.Gathered.{Argument, Answered, Drawn, Expired, Expiring, Finished, Gathered, Gathers, Rings, Shields, Tells, Timed}
use Rattle.model_gather.specs.Gathered.{TimedState, TimedWait, WaitMode, Waiting, Waits, WaitsFor, at_once, distinct, distinct_arguments, drawn_after, drawn_at}
use Rattle.model_gather.specs.Gathered.{draws, futures_of, gather_part, resolved, settled_as}
use Rattle.model_gather.specs.Gather.{count, gather, gather_all, was_asked}
use Rattle.model_gather.specs.Serving.{OfGather, OfShield, OfWait, OfWaitFor, Request, Wanted, acted, asked, gather_means, requested, rung, serve, served, told}
use Rattle.model_gather.specs.Serving.{wanted_of, woken}
use Rattle.model_gather.specs.Shield.{shield, shield_open}
use Rattle.model_gather.specs.Wait.{bad_mode, empty_set, handle_if_some, is_over, one_if_some, revoked}
use Rattle.model_gather.specs.Wait.{tag_if_some, wait, wait_all}
use Rattle.model_gather.specs.WaitFor.{bad_timeout, may_time, wait_for, wait_for_all, wait_for_woken}
use Rattle.law_cancel.proofs.Lookups.{get-set_kept, get-set_other, get-set_same}
use Rattle.law_members.proofs.Asking.{counted_of, gather_fit, gather_steps, open_of, shield_fit, shield_steps, timed_fit, timed_steps, wait_fit, wait_steps}
use Rattle.law_members.proofs.Asking.{waiting_of}
use Rattle.law_members.proofs.Counted.{Counts, counted_down, goes_on, same_counted, taken_left, the_key}
use Rattle.law_members.proofs.Drawing.{KeepsCounted, counts_at, counts_in, more_counted, settled_makes, tells_at}
use Rattle.law_members.proofs.Drawing.{tells_in}
use Rattle.law_members.proofs.Entering.{no_more, plain_fit, tail_alone}
use Rattle.law_members.proofs.Onward.{Onward, makes, steps_coming, steps_stay, taken_onward}

-- a shield by what it shields
abbrev pub shielded : Option Outcome → (inner : ℕ) → Parts → Gathered → ExtraSaid Gathered
shielded o inner p kept =
    elim o [ Some outcome ↦ at_once (passes (input_of outcome)) kept | None ↦ draws 2 (shield_open inner p kept) kept ]

-- after a call
abbrev pub CallCounted : ExtraCall Gathered → Loop → Type 0
CallCounted call l = KeepsCounted call.state (made_by_all call.steps l).parts

-- ---- steps that make no handle
pub still_onward : (steps : List ExtraStep) (l : Loop) → ((test : Action → Bool) → sum_by (makes test) steps ≡ 0) → Onward l.parts (made_by_all steps l).parts
still_onward steps l none = record {
  fewer = λ test of. let a = steps_coming test of steps l in let b = none test in omega (arith, a, b);
  stays = steps_stay steps l;
}

pub settled_onward : (o : Option Outcome) (id : ℕ) (l : Loop) → Onward l.parts (made_by_all (settled_as o id) l).parts
settled_onward o id l = still_onward (settled_as o id) l (λ test. settled_makes test o id)

pub revoked_makes : (test : Action → Bool) (o : Option ℕ) → sum_by (makes test) (revoked o) ≡ 0
revoked_makes test None = refl
revoked_makes test (Some tag) = refl

pub revoked_onward : (o : Option ℕ) (l : Loop) → Onward l.parts (made_by_all (revoked o) l).parts
revoked_onward o l = still_onward (revoked o) l (λ test. revoked_makes test o)

module _ (kept : Gathered) (l : Loop) (c : KeepsCounted kept l.parts) where
  abbrev n : ℕ
  n = length kept.drawn

  -- ---- as it is asked
  drawn_keeps : (more : ℕ) (said : ExtraSaid Gathered) → CallCounted said.call l → CallCounted (draws more said kept).call l
  drawn_keeps more said h = at (can_draw gather_part n more)
    where
      at : (b : Bool) → CallCounted (if b then said else refuses out_of_range kept).call l
      at true = h
      at false = c

  once_keeps : (answer : ExtraAnswer) → CallCounted (at_once answer kept).call l
  once_keeps answer =
      drawn_keeps 1 (record { call = record { state = drawn_after (Answered ∷ []) kept; steps = [] }; answer = answer })
      (more_counted kept l c (Answered ∷ []) [] (plain_fit n Answered [] [] l refl refl (tail_alone n []) tt))

  gather_keeps : (as_items : Bool) (awaited : List ℕ) → CallCounted (gather as_items awaited l.parts kept).call l
  gather_keeps as_items [] = once_keeps (Answers (Items no_values))
  gather_keeps as_items (id ∷ ids) =
      let awaited : List ℕ = id ∷ ids in
      let counted = counted_of l.parts as_items awaited in
      let open_ = open_of l.parts awaited in
      drawn_keeps (1 + length open_) (gather_all as_items awaited (distinct awaited) l.parts kept)
      (subst
      (λ (tail : List Drawn). KeepsCounted (drawn_after (Gathers counted.now ∷ tail) kept) (made_by_all (gather_steps n l.parts as_items awaited) l).parts)
      (no_more (map (Tells n) open_))
      (more_counted kept l c (Gathers counted.now ∷ map (Tells n) open_ ++ []) (gather_steps n l.parts as_items awaited) (gather_fit n l as_items awaited)))

  wait_all_keeps : (mode : WaitMode) (delay : Option ℤ) (arguments : List Argument) → CallCounted (wait_all mode delay arguments l.parts kept).call l
  wait_all_keeps mode delay arguments =
      more_counted kept l c (Waits (waiting_of l.parts mode delay arguments) ∷ map (Tells n) (futures_of arguments) ++ handle_if_some delay n)
      (wait_steps n l.parts delay arguments) (wait_fit n l mode delay arguments)

  wait_keeps : (over : Option WaitMode) (delay : Option ℤ) (arguments : List Argument) → CallCounted (wait over delay arguments l.parts kept).call l
  wait_keeps over delay [] = once_keeps (Raises empty_set)
  wait_keeps None delay (it ∷ others) = once_keeps (Raises bad_mode)
  wait_keeps (Some mode) delay (it ∷ others) =
      let arguments = distinct_arguments (it ∷ others) in
      drawn_keeps (1 + length arguments + one_if_some delay) (wait_all mode delay arguments l.parts kept) (wait_all_keeps mode delay arguments)

  shield_keeps : (inner : ℕ) → CallCounted (shield inner l.parts kept).call l
  shield_keeps inner = at (future_outcome l.parts inner)
    where
      open_keeps : CallCounted (shield_open inner l.parts kept).call l
      open_keeps =
          more_counted kept l c (Shields (next_future l.parts) ∷ Tells n inner ∷ []) (shield_steps n inner) (shield_fit n inner l)

      at : (o : Option Outcome) → CallCounted (shielded o inner l.parts kept).call l
      at (Some outcome) = once_keeps (passes (input_of outcome))
      at None = drawn_keeps 2 (shield_open inner l.parts kept) open_keeps

  wait_for_all_keeps : (task id : ℕ) (delay : Option ℤ) → CallCounted (wait_for_all task id delay l.parts kept).call l
  wait_for_all_keeps task id delay =
      let it : TimedWait = record {
        task = task;
        stored = cancelling l.parts task;
        timer = tag_if_some delay l.parts.next_tag;
        state = Timed;
      } in
      more_counted kept l c (WaitsFor it ∷ handle_if_some delay n) (timed_steps n l.parts delay) (timed_fit n it delay l)

  wait_for_keeps : (task id : ℕ) (delay : Option ℤ) → CallCounted (wait_for task id delay l.parts kept).call l
  wait_for_keeps task id delay = at (may_time delay)
    where
      at : (b : Bool) → CallCounted (if b
          then draws (1 + one_if_some delay) (wait_for_all task id delay l.parts kept) kept
          else at_once (Raises bad_timeout) kept).call l
      at true = drawn_keeps (1 + one_if_some delay) (wait_for_all task id delay l.parts kept) (wait_for_all_keeps task id delay)
      at false = once_keeps (Raises bad_timeout)

  serve_keeps : (it : Request) (task : ℕ) → CallCounted (serve it task l.parts kept).call l
  serve_keeps (OfGather as_items awaited) task = gather_keeps as_items awaited
  serve_keeps (OfWait over delay arguments) task = wait_keeps over delay arguments
  serve_keeps (OfShield inner) task = shield_keeps inner
  serve_keeps (OfWaitFor id delay) task = wait_for_keeps task id delay

  -- ---- an entry is changed that counts nothing, by steps that make no handle
  other_keeps : (place : ℕ) (old new : Drawn) (steps : List ExtraStep) → slice_get kept.drawn place ≡ Some old
      → counts_in (Some new) ≡ counts_in (Some old) → tells_in (Some new) ≡ tells_in (Some old)
      → ((test : Action → Bool) → sum_by (makes test) steps ≡ 0) → CallCounted (record { state = drawn_at place new kept; steps = steps }) l
  other_keeps place old new steps found same tells_same none =
      goes_on
      (same_counted c (counts_at (drawn_at place new kept)) (tells_at (drawn_at place new kept)) (length (slice_set kept.drawn place new))
      (λ k. get-set_kept counts_in kept.drawn place k old new found same) (λ k. get-set_kept tells_in kept.drawn place k old new found tells_same)
      (length-set kept.drawn place new)) (made_by_all steps l).parts (still_onward steps l none)

  still_keeps : (steps : List ExtraStep) → ((test : Action → Bool) → sum_by (makes test) steps ≡ 0) → CallCounted (record { state = kept; steps = steps }) l
  still_keeps steps none = goes_on c (made_by_all steps l).parts (still_onward steps l none)

  -- ---- as its task goes on
  module _ (place : ℕ) (input : Input) (it : TimedWait) where
    abbrev as_is : TimedState → TimedWait
    as_is state = record it { state = state }

    abbrev Goes : TimedState → Type 0
    Goes state =
        slice_get kept.drawn place ≡ Some (WaitsFor (as_is state)) → CallCounted (wait_for_woken place input (as_is state) l.parts kept).call l

    taken_back : (test : Action → Bool) → sum_by (makes test) (revoked it.timer ++ Uncancels (key_at gather_part place) it.task ∷ []) ≡ 0
    taken_back test =
        let a = sum_by-append (makes test) (revoked it.timer) (Uncancels (key_at gather_part place) it.task ∷ []) in
        let b = revoked_makes test it.timer in
        omega (arith, a, b)

    finished : (state : TimedState) → slice_get kept.drawn place ≡ Some (WaitsFor (as_is state))
        → CallCounted (record { state = drawn_at place (WaitsFor (record it { state = Finished; timer = None })) kept; steps = revoked it.timer }) l
    finished state found =
        other_keeps place (WaitsFor (as_is state)) (WaitsFor (record it { state = Finished; timer = None })) (revoked it.timer) found refl refl
        (λ test. revoked_makes test it.timer)

    timed_keeps : (state : TimedState) → Goes state
    timed_keeps Expiring found =
        other_keeps place (WaitsFor (as_is Expiring)) (WaitsFor (as_is Expired)) (revoked it.timer ++ Uncancels (key_at gather_part place) it.task ∷ [])
        found refl refl taken_back
    timed_keeps Timed found = finished Timed found
    timed_keeps Expired found = finished Expired found
    timed_keeps Finished found = finished Finished found

  pub woken_keeps : (place : ℕ) (input : Input) (o : Option Drawn) → slice_get kept.drawn place ≡ o → CallCounted (woken o place input l.parts kept).call l
  woken_keeps place input (Some (Waits it)) e = still_keeps (revoked it.timer) (λ test. revoked_makes test it.timer)
  woken_keeps place input (Some (WaitsFor it)) e = timed_keeps place input it it.state e
  woken_keeps place input _ e = c

-- ---- a handle that is first runs
module _ (kept : Gathered) (l : Loop) (c : KeepsCounted kept l.parts) (handle : Handle) (rest : List Handle) (j : ℕ)
    (first : l.parts.pending ≡ handle ∷ rest) (live : handle.dead ≡ false) (is : handle.action ≡ action.Extra (the_key j)) where
  abbrev now : Loop
  now = record l { parts = record l.parts { pending = rest } }

  here : KeepsCounted kept (record l.parts { pending = rest })
  here = goes_on c (record l.parts { pending = rest }) (taken_onward handle rest l.parts first)

  -- a request counts one fewer
  fewer_keeps : (place future : ℕ) (old new : Drawn) (was now_is : Counts) (o : Option Outcome) (id : ℕ) → tells_at kept j ≡ Some (place, future)
      → slice_get kept.drawn place ≡ Some old → counts_in (Some old) ≡ Some was → counts_in (Some new) ≡ Some now_is
      → now_is.own ≡ was.own → now_is.members ≡ was.members → now_is.left ≡ was.left - 1 → tells_in (Some new) ≡ tells_in (Some old)
      → CallCounted (record { state = drawn_at place new kept; steps = settled_as o id }) (record l { parts = record l.parts { pending = rest } })
  fewer_keeps place future old new was now_is o id told found counts_old counts_new own members left tells_same =
      let kept' = drawn_at place new kept in
      let fewer = taken_left c handle rest j place future was first live is told (ap counts_in found ∙ counts_old) in
      goes_on
      (same_counted
      (counted_down here (counts_at (drawn_at place new kept)) place was now_is (ap counts_in found ∙ counts_old)
      (ap counts_in (get-set_same kept.drawn place old new found) ∙ counts_new)
      (λ k apart. ap counts_in (get-set_other kept.drawn place k new apart)) own members (omega (arith, fewer, left)))
      (counts_at (drawn_at place new kept)) (tells_at (drawn_at place new kept)) (length (slice_set kept.drawn place new)) (λ k. refl)
      (λ k. get-set_kept tells_in kept.drawn place k old new found tells_same) (length-set kept.drawn place new))
      (made_by_all (settled_as o id) now).parts (settled_onward o id now)

  pub told_keeps : (place future : ℕ) → tells_at kept j ≡ Some (place, future) → (o : Option Drawn) → slice_get kept.drawn place ≡ o
      → CallCounted (told o place future (record l.parts { pending = rest }) kept) (record l { parts = record l.parts { pending = rest } })
  told_keeps place future tells (Some (Gathers it)) e =
      let counted = count now.parts (was_asked now.parts it.outer) future it in
      fewer_keeps place future (Gathers it) (Gathers counted.now) (record { own = it.outer; members = it.awaited; left = it.left })
      (record { own = it.outer; members = it.awaited; left = it.left - 1 }) counted.outcome it.outer tells e refl refl refl refl refl refl
  told_keeps place future tells (Some (Waits it)) e =
      let fewer : Waiting = record it { left = it.left - 1 } in
      let over = option_map_or (λ outcome. is_over outcome fewer) (future_outcome now.parts future) false in
      fewer_keeps place future (Waits it) (Waits fewer) (record { own = it.on; members = futures_of it.arguments; left = it.left })
      (record { own = it.on; members = futures_of it.arguments; left = it.left - 1 }) (if over then Some resolved else None) it.on tells e refl refl refl
      refl refl refl
  told_keeps place future tells (Some (Shields on)) e =
      still_keeps kept now here (settled_as (future_outcome now.parts future) on) (λ test. settled_makes test (future_outcome now.parts future) on)
  told_keeps place future tells _ e = here

  rung_keeps : (place : ℕ) (o : Option Drawn) → slice_get kept.drawn place ≡ o
      → CallCounted (rung o place (record l.parts { pending = rest }) kept) (record l { parts = record l.parts { pending = rest } })
  rung_keeps place (Some (Waits it)) e =
      still_keeps kept now here (settled_as (Some resolved) it.on) (λ test. settled_makes test (Some resolved) it.on)
  rung_keeps place (Some (WaitsFor it)) e =
      other_keeps kept now here place (WaitsFor it) (WaitsFor (record it { state = Expiring; timer = None }))
      (Cancels (key_at gather_part place) (future_of now.parts it.task) ∷ []) e refl refl (λ test. refl)
  rung_keeps place _ e = here

  pub acted_keeps : (o : Option Drawn) → slice_get kept.drawn j ≡ o
      → CallCounted (acted o (record l.parts { pending = rest }) kept) (record l { parts = record l.parts { pending = rest } })
  acted_keeps (Some (Tells place future)) e = told_keeps place future (ap tells_in e) (slice_get kept.drawn place) refl
  acted_keeps (Some (Rings place)) e = rung_keeps place (slice_get kept.drawn place) refl
  acted_keeps _ e = here

-- ---- a call of `gather_means`
pub asked_keeps : (task : ℕ) (code : ℤ) (arguments : List Value) (s : State Gathered) → KeepsCounted s.extra s.loop.parts
    → CallCounted (gather_means.ask task code arguments s).call s.loop
asked_keeps task code arguments s c = at (wanted_of code)
  where
    of : (it : Option Request) → CallCounted (served it task s.loop.parts s.extra).call s.loop
    of None = c
    of (Some it) = serve_keeps s.extra s.loop c it task

    at : (wanted : Option Wanted) → CallCounted (asked wanted task code arguments s).call s.loop
    at None = c
    at (Some wanted) = of (requested s wanted arguments)
