-- What is so of all wait_fors stays so, whatever is called.
use Rattle.std.proofs.Common.{◌≡◌, ◌<◌, ◌≤◌, ◌+◌, ◌-◌, ◌&&◌, ◌⊎◌, inl, inr, ℕ, ℤ, suc, Bool, true, false, List, [], ◌∷◌, ◌++◌, Option, Some, None, Ok, Err}
use Rattle.std.proofs.Common.{if◌then◌else◌, length, map, filter, nat_le, not, slice_get, slice_set, refl, sym, ap, subst, ◌∙◌, arith}
use Rattle.std.proofs.Math.ListN.{length-set}
use Rattle.std.specs.List.{AllByRecursion as Each}
use Rattle.std.specs.Option.{option_map_or}
use Rattle.std.proofs.lemmas.Bool.{false≢true}
use Rattle.std.proofs.lemmas.Option.{none-some}
use Rattle.model_value.specs.declared.action.Action.TheVariants as action
use Rattle.model_value.specs.Input.{Input}
use Rattle.model_value.specs.declared.input.Input.TheVariants.{Send, Throw}
use Rattle.model_value.specs.Value.{Items, Outcome, Value, no_values, values}
use Rattle.model_value.specs.Depth.{depth_of}
use Rattle.model_value.specs.Weight.{weight_of}
use Rattle.model_says.specs.Operations.{bounded, deepest, heaviest, out_of_range}
use Rattle.model_loop.specs.Futures.{future_outcome, is_pending, next_future}
use Rattle.model_loop.specs.Loop.{Loop}
use Rattle.model_loop.specs.Parts.{Handle, Parts}
use Rattle.model_loop.specs.Tasks.{cancelling, future_of}
use Rattle.model_loop.specs.Timeouts.{timeout_exception}
use Rattle.model_loop.specs.Ways.{one_if}
use Rattle.model_machine.specs.Extra.{Answers, Cancels, ExtraAnswer, ExtraSaid, ExtraStep, MakesMany, MakesPlain, Raises, Revokes, Uncancels, made_by}
use Rattle.model_machine.specs.Extra.{made_by_all}
use Rattle.model_machine.specs.Outcomes.{input_of}
use Rattle.model_machine.specs.Sound.{StandsUnder}
use Rattle.model_machine.specs.State.{Generator, State}
use Rattle.model_reach.specs.Part.{can_draw, key_at, passes, refuses}
use Rattle.model_gather.specs.Gathered.{Argument, Answered, Drawn, Expired, Expiring, Finished, Gathered, Gathering, Gathers, Rings, Shields, Tells, Timed}
use Rattle.model_gather.specs.Gathered.{TimedState, TimedWait, WaitMode, Waiting, Waits, WaitsFor, at_once, distinct, distinct_arguments, drawn_after, drawn_at}
use Rattle.model_gather.specs.Gathered.{draws, futures_of, gather_part, registered_from, resolved, settled_as, values_of}
use Rattle.model_gather.specs.Gather.{count, count_all, gather, gather_all, was_asked}
use Rattle.model_gather.specs.Serving.{OfGather, OfShield, OfWait, OfWaitFor, Request, Wanted, acted, asked, gather_means, requested, rung, serve, served, told}
use Rattle.model_gather.specs.Serving.{wanted_of, woken}
use Rattle.model_gather.specs.Shield.{shield, shield_open}
use Rattle.model_gather.specs.Wait.{bad_mode, empty_set, handle_if_some, is_over, one_if_some, revoked, rings_after, rings_at}
use Rattle.model_gather.specs.Wait.{sorted, tag_if_some, wait, wait_all}
use Rattle.model_gather.specs.Wait.{wait_woken}
use Rattle.model_gather.specs.WaitFor.{bad_timeout, cancels_in, may_time, wait_for, wait_for_all, wait_for_says, wait_for_woken}
use Rattle.law_cancel.proofs.Lookups.{get-set_kept, get-set_other, get-set_same}
use Rattle.law_changes.specs.Changes.{LeavesPending}
use Rattle.law_waiters.specs.Timed.{went_on_after, was_expiring}
use Rattle.law_waiters.proofs.Books.{BooksNot, asks_no_take, asks_once, asks_same, takes_no_ask, takes_once, takes_same}
use Rattle.law_waiters.proofs.Drawing.{CallRight, IsFreeFor, IsReady, KeepsRight, SaidRight, keys_apart, length_tells, more_right, plain_fits}
use Rattle.law_waiters.proofs.Drawing.{registered_apart, registered_books, revoked_apart, revoked_books, ring_at, ring_in, rings_books}
use Rattle.law_waiters.proofs.Drawing.{settled_apart, settled_books, tells_tail, timed_alone, timed_at, timed_in, timed_tail, timed_with, waits_right}
use Rattle.law_waiters.proofs.Fewer.{Fewer, StepFor, change_fewer, step_fewer}
use Rattle.law_waiters.proofs.Fitting.{each_append}
use Rattle.law_waiters.proofs.Right.{asked_in, asks_at, changed_right, goes_right, is_waiting, same_right, still_right, takes_at, the_key, took_in}
use Rattle.law_waiters.proofs.Timers.{TimerFits, later_fits, revoked_fits, taken_fits, timer_on}

passes_free : (input : Input) (kept : Gathered) (gs : List Generator) → IsFreeFor (passes input) kept gs
passes_free (Send value) kept gs = tt
passes_free (Throw fault) kept gs = tt

-- a shield by what it shields
abbrev shielded : Option Outcome → (inner : ℕ) → Parts → Gathered → ExtraSaid Gathered
shielded o inner p kept =
    elim o [ Some outcome ↦ at_once (passes (input_of outcome)) kept | None ↦ draws 2 (shield_open inner p kept) kept ]

module _ (kept : Gathered) (l : Loop) (gs : List Generator) (r : KeepsRight kept l gs) where
  abbrev n : ℕ
  n = length kept.drawn

  -- ---- as it is asked
  drawn_right : (more : ℕ) (said : ExtraSaid Gathered) → SaidRight said l gs → SaidRight (draws more said kept) l gs
  drawn_right more said h = at (can_draw gather_part n more)
    where
      at : (b : Bool) → SaidRight (if b then said else refuses out_of_range kept) l gs
      at true = h
      at false = (r, tt)

  answered_right : KeepsRight (drawn_after (Answered ∷ []) kept) l gs
  answered_right =
      more_right kept l gs r (Answered ∷ []) [] (plain_fits n Answered [] l.parts refl refl (tells_tail n [])) (λ k h. tt) (λ k. tt)

  once_right : (answer : ExtraAnswer) → IsFreeFor answer (drawn_after (Answered ∷ []) kept) gs → SaidRight (at_once answer kept) l gs
  once_right answer free =
      drawn_right 1 (record { call = record { state = drawn_after (Answered ∷ []) kept; steps = [] }; answer = answer }) (answered_right, free)

  gather_right : (as_items : Bool) (awaited : List ℕ) → SaidRight (gather as_items awaited l.parts kept) l gs
  gather_right as_items [] = once_right (Answers (Items no_values)) tt
  gather_right as_items (id ∷ ids) =
      let members = distinct (id ∷ ids) in
      let open_ = filter (is_pending l.parts) members in
      let whole : Gathering = record { outer = next_future l.parts; awaited = id ∷ ids; as_items = as_items; left = length members } in
      let counted = count_all l.parts false (filter (λ other. not (is_pending l.parts other)) members) whole in
      let handles = registered_from gather_part (suc n) open_ in
      let settled = settled_as counted.outcome (next_future l.parts) in
      let size = length_tells n open_ in
      drawn_right (1 + length open_) (gather_all as_items (id ∷ ids) members l.parts kept)
      (waits_right kept l gs r (next_future l.parts) (Gathers counted.now) (map (Tells n) open_) (MakesMany members ∷ handles ++ settled)
      (plain_fits n (Gathers counted.now) (map (Tells n) open_) (made_by_all (MakesMany members ∷ handles ++ settled) l).parts refl refl
      (tells_tail n open_))
      (λ k h. (
        tt,
        each_append (StepFor (the_key k)) handles settled (registered_apart k (suc n) open_ (past k (length open_) _ size h))
            (settled_apart (the_key k) counted.outcome (next_future l.parts)),
      ))
      (λ k. (
        tt,
        each_append (BooksNot (the_key k)) handles settled (registered_books (the_key k) (suc n) open_)
            (settled_books (the_key k) counted.outcome (next_future l.parts)),
      )))
    where
      past : (k size : ℕ) (tail : ℕ) → tail ≡ size → (k < n) ⊎ (n + suc tail ≤ k) → (k < suc n) ⊎ (suc n + size ≤ k)
      past k size tail same (inl h) = inl (omega (arith, h))
      past k size tail same (inr h) = inr (omega (arith, h, same))

  wait_all_right : (mode : WaitMode) (delay : Option ℤ) (arguments : List Argument) → SaidRight (wait_all mode delay arguments l.parts kept) l gs
  wait_all_right mode delay arguments =
      let members = futures_of arguments in
      let done = length (filter (λ id. not (is_pending l.parts id)) members) in
      let handles = registered_from gather_part (suc n) members in
      let timer = rings_after delay (key_at gather_part (suc n + length members)) l.parts in
      let steps = MakesPlain ∷ handles ++ timer in
      let it : Waiting = record {
        on = next_future l.parts;
        arguments = arguments;
        mode = mode;
        left = length members;
        timer = tag_if_some delay (l.parts.next_tag + done);
      } in
      waits_right kept l gs r (next_future l.parts) (Waits it) (map (Tells n) members ++ handle_if_some delay n) steps
      (plain_fits n (Waits it) (map (Tells n) members ++ handle_if_some delay n) (made_by_all steps l).parts refl refl (timed_tail n members delay))
      (λ k h. (tt, apart k members delay h))
      (λ k. (
        tt,
        each_append (BooksNot (the_key k)) handles timer (registered_books (the_key k) (suc n) members)
            (rings_books (the_key k) (key_at gather_part (suc n + length members)) delay l.parts),
      ))
    where
      tail_size : (ids : List ℕ) (o : Option ℤ) → length (map (Tells n) ids ++ handle_if_some o n) ≡ length ids + one_if_some o
      tail_size [] None = refl
      tail_size [] (Some it) = refl
      tail_size (id ∷ ids) o = let ih = tail_size ids o in omega (arith, ih)

      apart : (k : ℕ) (ids : List ℕ) (o : Option ℤ) → (k < n) ⊎ (n + suc (length (map (Tells n) ids ++ handle_if_some o n)) ≤ k)
          → Each (StepFor (the_key k)) (registered_from gather_part (suc n) ids ++ rings_after o (key_at gather_part (suc n + length ids)) l.parts)
      apart k ids None (inl h) =
          each_append (StepFor (the_key k)) (registered_from gather_part (suc n) ids) [] (registered_apart k (suc n) ids (inl (omega (arith, h)))) tt
      apart k ids None (inr h) =
          let z = tail_size ids None in
          each_append (StepFor (the_key k)) (registered_from gather_part (suc n) ids) []
          (registered_apart k (suc n) ids (inr (omega (arith, h, z)))) tt
      apart k ids (Some it) (inl h) =
          each_append (StepFor (the_key k)) (registered_from gather_part (suc n) ids)
          (rings_after (Some it) (key_at gather_part (suc n + length ids)) l.parts)
          (registered_apart k (suc n) ids (inl (omega (arith, h)))) (keys_apart (suc n + length ids) k (λ e. absurd (omega (arith, h, e))), tt)
      apart k ids (Some it) (inr h) =
          let z = tail_size ids (Some it) in
          each_append (StepFor (the_key k)) (registered_from gather_part (suc n) ids)
          (rings_after (Some it) (key_at gather_part (suc n + length ids)) l.parts)
          (registered_apart k (suc n) ids (inr (omega (arith, h, z))))
          (keys_apart (suc n + length ids) k (λ e. absurd (omega (arith, h, e, z))), tt)

  wait_right : (over : Option WaitMode) (delay : Option ℤ) (arguments : List Argument) → SaidRight (wait over delay arguments l.parts kept) l gs
  wait_right over delay [] = once_right (Raises empty_set) tt
  wait_right None delay (it ∷ others) = once_right (Raises bad_mode) tt
  wait_right (Some mode) delay (it ∷ others) =
      let arguments = distinct_arguments (it ∷ others) in
      drawn_right (1 + length arguments + one_if_some delay) (wait_all mode delay arguments l.parts kept) (wait_all_right mode delay arguments)

  shield_right : (inner : ℕ) → SaidRight (shield inner l.parts kept) l gs
  shield_right inner = at (future_outcome l.parts inner)
    where
      handles : List ExtraStep
      handles = registered_from gather_part (suc (length kept.drawn)) (inner ∷ [])

      ready : (k : ℕ) → (k < n) ⊎ (n + 2 ≤ k) → (k < suc n) ⊎ (suc n + 1 ≤ k)
      ready k (inl h) = inl (omega (arith, h))
      ready k (inr h) = inr (omega (arith, h))

      open_right : SaidRight (shield_open inner l.parts kept) l gs
      open_right =
          waits_right kept l gs r (next_future l.parts) (Shields (next_future l.parts)) (Tells n inner ∷ [])
          (MakesPlain ∷ registered_from gather_part (suc n) (inner ∷ []))
          (plain_fits n (Shields (next_future l.parts)) (Tells n inner ∷ [])
          (made_by_all (MakesPlain ∷ registered_from gather_part (suc n) (inner ∷ [])) l).parts refl refl (tells_tail n (inner ∷ [])))
          (λ k h. (tt, registered_apart k (suc n) (inner ∷ []) (ready k h))) (λ k. (tt, (tt, tt)))

      at : (o : Option Outcome) → SaidRight (shielded o inner l.parts kept) l gs
      at (Some outcome) = once_right (passes (input_of outcome)) (passes_free (input_of outcome) (drawn_after (Answered ∷ []) kept) gs)
      at None = drawn_right 2 (shield_open inner l.parts kept) open_right

  wait_for_all_right : (task id : ℕ) (delay : Option ℤ) → SaidRight (wait_for_all task id delay l.parts kept) l gs
  wait_for_all_right task id None =
      let it : TimedWait = record { task = task; stored = cancelling l.parts task; timer = None; state = Timed } in
      waits_right kept l gs r id (WaitsFor it) [] [] (timed_alone n it l.parts refl) (λ k h. tt) (λ k. tt)
  wait_for_all_right task id (Some delay) =
      let it : TimedWait = record { task = task; stored = cancelling l.parts task; timer = Some l.parts.next_tag; state = Timed } in
      let steps = rings_after (Some delay) (key_at gather_part (suc n)) l.parts in
      waits_right kept l gs r id (WaitsFor it) (Rings n ∷ []) steps
      (timed_with n it (made_by_all steps l).parts refl
      (later_fits (the_key (suc n)) (rings_at l.parts.time delay) l.parts (r.fresh (suc n) (omega arith))))
      (λ k h. (keys_apart (suc n) k (apart k h), tt)) (λ k. (tt, tt))
    where
      apart : (k : ℕ) → (k < n) ⊎ (n + 2 ≤ k) → suc n ≡ k → ⊥
      apart k (inl h) e = absurd (omega (arith, h, e))
      apart k (inr h) e = absurd (omega (arith, h, e))

  wait_for_right : (task id : ℕ) (delay : Option ℤ) → SaidRight (wait_for task id delay l.parts kept) l gs
  wait_for_right task id delay = at (may_time delay)
    where
      at : (b : Bool) → SaidRight (if b
          then draws (1 + one_if_some delay) (wait_for_all task id delay l.parts kept) kept
          else at_once (Raises bad_timeout) kept) l gs
      at true = drawn_right (1 + one_if_some delay) (wait_for_all task id delay l.parts kept) (wait_for_all_right task id delay)
      at false = once_right (Raises bad_timeout) tt

  serve_right : (it : Request) (task : ℕ) → SaidRight (serve it task l.parts kept) l gs
  serve_right (OfGather as_items awaited) task = gather_right as_items awaited
  serve_right (OfWait over delay arguments) task = wait_right over delay arguments
  serve_right (OfShield inner) task = shield_right inner
  serve_right (OfWaitFor id delay) task = wait_for_right task id delay

  -- ---- an entry is changed that is no wait_for and no timer's
  other_right : (place : ℕ) (old new : Drawn) → slice_get kept.drawn place ≡ Some old → timed_in (Some new) ≡ timed_in (Some old)
      → ring_in (Some new) ≡ ring_in (Some old) → KeepsRight (drawn_at place new kept) l gs
  other_right place old new found same rings_same =
      same_right r (timed_at (drawn_at place new kept)) (ring_at (drawn_at place new kept)) (length (slice_set kept.drawn place new))
      (λ k. get-set_kept timed_in kept.drawn place k old new found same) (λ k. get-set_kept ring_in kept.drawn place k old new found rings_same)
      (length-set kept.drawn place new)

-- ---- an entry of a wait_for changes, by these steps
record Changes (kept : Gathered) (l : Loop) (gs : List Generator) (place : ℕ) (new : TimedWait) (m : Loop) : Type 0 where
  fewer : (k : ℕ) → Fewer (the_key k) l.parts m.parts
  timer : ring_at kept (suc place) ≡ Some place → TimerFits (the_key (suc place)) new.timer m.parts
  only : (tag : ℕ) → new.timer ≡ Some tag → new.state ≡ Timed
  stands : (task : ℕ) → StandsUnder gs task (the_key place) → is_waiting new.state ≡ true
  asks_others : (k : ℕ) → (place ≡ k → ⊥) → asks_at m k ≡ asks_at l k
  asks_here : asks_at m place ≡ one_if (was_expiring new.state)
  takes_others : (k : ℕ) → (place ≡ k → ⊥) → takes_at m k ≡ takes_at l k
  takes_here : takes_at m place ≡ one_if (went_on_after new.state)

timed_right : (kept : Gathered) (l : Loop) (gs : List Generator) → KeepsRight kept l gs → (place : ℕ) (old new : TimedWait) (m : Loop)
    → slice_get kept.drawn place ≡ Some (WaitsFor old) → Changes kept l gs place new m → KeepsRight (drawn_at place (WaitsFor new) kept) m gs
timed_right kept l gs r place old new m found it =
    let kept' = drawn_at place (WaitsFor new) kept in
    let is = ap timed_in (get-set_same kept.drawn place (WaitsFor old) (WaitsFor new) found) in
    same_right
    (changed_right r (timed_at kept') (ring_at kept') place old new m (ap timed_in found) is
    (λ k apart. ap timed_in (get-set_other kept.drawn place k (WaitsFor new) apart))
    (λ k. get-set_kept ring_in kept.drawn place k (WaitsFor old) (WaitsFor new) found refl)
    it.fewer it.timer it.only it.stands it.asks_others it.asks_here it.takes_others it.takes_here)
    (timed_at kept') (ring_at kept') (length (slice_set kept.drawn place (WaitsFor new))) (λ k. refl) (λ k. refl)
    (length-set kept.drawn place (WaitsFor new))

module _ (kept : Gathered) (l : Loop) (gs : List Generator) (r : KeepsRight kept l gs) where
  -- ---- as its handles run
  still_told : (o : Option Outcome) (id : ℕ) → KeepsRight kept (made_by_all (settled_as o id) l) gs
  still_told o id = still_right r (settled_as o id) (λ k. settled_apart (the_key k) o id) (λ k. settled_books (the_key k) o id)

  told_right : (place future : ℕ) (o : Option Drawn) → slice_get kept.drawn place ≡ o → CallRight (told o place future l.parts kept) l gs
  told_right place future (Some (Gathers it)) e =
      let counted = count l.parts (was_asked l.parts it.outer) future it in
      other_right kept (made_by_all (settled_as counted.outcome it.outer) l) gs (still_told counted.outcome it.outer) place (Gathers it)
      (Gathers counted.now) e refl refl
  told_right place future (Some (Waits it)) e =
      let now : Waiting = record it { left = it.left - 1 } in
      let over = option_map_or (λ outcome. is_over outcome now) (future_outcome l.parts future) false in
      let o : Option Outcome = if over then Some resolved else None in
      other_right kept (made_by_all (settled_as o it.on) l) gs (still_told o it.on) place (Waits it) (Waits now) e refl refl
  told_right place future (Some (Shields id)) e = still_told (future_outcome l.parts future) id
  told_right place future _ e = r

  -- the handle of a timer that is first runs: it is no more pending in `m`
  rings_here : (place : ℕ) (it : TimedWait) → slice_get kept.drawn place ≡ Some (WaitsFor it) → it.state ≡ Timed
      → TimerFits (the_key (suc place)) None l.parts
      → KeepsRight (drawn_at place (WaitsFor (record it { state = Expiring; timer = None })) kept)
      (made_by_all (Cancels (key_at gather_part place) (future_of l.parts it.task) ∷ []) l) gs
  rings_here place it found timed none =
      let id = future_of l.parts it.task in
      timed_right kept l gs r place it (record it { state = Expiring; timer = None }) (made_by (Cancels (the_key place) id) l) found (record {
        fewer = λ k. step_fewer (the_key k) (Cancels (the_key place) id) l tt;
        timer = λ ring. timer_on (the_key (suc place)) None l.parts (made_by (Cancels (the_key place) id) l).parts
            (step_fewer (the_key (suc place)) (Cancels (the_key place) id) l tt) none;
        only = λ tag e. absurd (none-some tag e);
        stands = λ task h. refl;
        asks_others = λ k apart. asks_same (the_key k) (Cancels (the_key place) id) l (keys_apart place k apart);
        asks_here =
            let a = asks_once (the_key place) id l in
            let b = r.asked place in
            let c = ap (λ o. asked_in (timed_in o)) found in
            let d : one_if (was_expiring it.state) ≡ 0 = ap (λ s. one_if (was_expiring s)) timed in
            omega (arith, a, b, c, d);
        takes_others = λ k apart. takes_same (the_key k) (Cancels (the_key place) id) l (keys_apart place k apart);
        takes_here =
            let a = asks_no_take (the_key place) id l in
            let b = r.took place in
            let c = ap (λ o. took_in (timed_in o)) found in
            let d : one_if (went_on_after it.state) ≡ 0 = ap (λ s. one_if (went_on_after s)) timed in
            omega (arith, a, b, c, d);
      })

  -- ---- as its task goes on
  -- after these steps, which make no handle
  went_right : (place : ℕ) (old new : TimedWait) (step : ExtraStep) → slice_get kept.drawn place ≡ Some (WaitsFor old)
      → ((task : ℕ) → StandsUnder gs task (the_key place) → ⊥) → new.timer ≡ None → ((k : ℕ) → StepFor (the_key k) step)
      → ((k : ℕ) → (place ≡ k → ⊥) → BooksNot (the_key k) step)
      → (ring_at kept (suc place) ≡ Some place → TimerFits (the_key (suc place)) None (made_by step l).parts)
      → asks_at (made_by step l) place ≡ one_if (was_expiring new.state) → takes_at (made_by step l) place ≡ one_if (went_on_after new.state)
      → KeepsRight (drawn_at place (WaitsFor new) kept) (made_by step l) gs
  went_right place old new step found free gone for_none books timer asks_here takes_here =
      timed_right kept l gs r place old new (made_by step l) found (record {
        fewer = λ k. step_fewer (the_key k) step l (for_none k);
        timer = λ ring. subst (λ o. TimerFits (the_key (suc place)) o (made_by step l).parts) (sym gone) (timer ring);
        only = λ tag e. absurd (none-some tag (sym gone ∙ e));
        stands = λ task h. absurd (free task h);
        asks_others = λ k apart. asks_same (the_key k) step l (books k apart);
        asks_here = asks_here;
        takes_others = λ k apart. takes_same (the_key k) step l (books k apart);
        takes_here = takes_here;
      })

  -- by what it is: whether its time is over, and whether it has a timer
  abbrev as_is : TimedWait → TimedState → Option ℕ → TimedWait
  as_is it state timer = record it { state = state; timer = timer }

  says_free : (input : Input) (it : TimedWait) (kept' : Gathered) → IsFreeFor (wait_for_says input it l.parts) kept' gs
  says_free input it kept' = at (nat_le (cancelling l.parts it.task - 1) it.stored && cancels_in input)
    where
      at : (b : Bool) → IsFreeFor (if b then Raises timeout_exception else passes input) kept' gs
      at true = tt
      at false = passes_free input kept' gs

  module _ (place : ℕ) (input : Input) (it : TimedWait) (free : (task : ℕ) → StandsUnder gs task (the_key place) → ⊥) where
    abbrev Goes : TimedState → Option ℕ → Type 0
    Goes state timer =
        slice_get kept.drawn place ≡ Some (WaitsFor (as_is it state timer)) → is_waiting state ≡ true
        → SaidRight (wait_for_woken place input (as_is it state timer) l.parts kept) l gs

    -- what the ledger says so far
    asked_now : (state : TimedState) (timer : Option ℕ) → slice_get kept.drawn place ≡ Some (WaitsFor (as_is it state timer))
        → asks_at l place ≡ one_if (was_expiring state)
    asked_now state timer found = r.asked place ∙ ap (λ o. asked_in (timed_in o)) found

    took_now : (state : TimedState) (timer : Option ℕ) → slice_get kept.drawn place ≡ Some (WaitsFor (as_is it state timer))
        → takes_at l place ≡ one_if (went_on_after state)
    took_now state timer found = r.took place ∙ ap (λ o. took_in (timed_in o)) found

    -- its timer's handle
    handle_now : (state : TimedState) (timer : Option ℕ) → slice_get kept.drawn place ≡ Some (WaitsFor (as_is it state timer))
        → ring_at kept (suc place) ≡ Some place → TimerFits (the_key (suc place)) timer l.parts
    handle_now state timer found ring = r.rings place (as_is it state timer) (ap timed_in found) ring

    goes_on : (state : TimedState) (timer : Option ℕ) → Goes state timer
    goes_on Expiring None found waiting =
        let step = Uncancels (the_key place) it.task in (
          went_right place (as_is it Expiring None) (as_is it Expired None) step found free refl (λ k. tt) (λ k apart. keys_apart place k apart)
              (λ ring. timer_on (the_key (suc place)) None l.parts (made_by step l).parts (step_fewer (the_key (suc place)) step l tt)
              (handle_now Expiring None found ring))
              (takes_no_ask (the_key place) it.task l ∙ asked_now Expiring None found)
              (let a = takes_once (the_key place) it.task l in let b = took_now Expiring None found in omega (arith, a, b)),
          says_free input (as_is it Expiring None) _,
        )
    goes_on Expiring (Some tag) found waiting =
        absurd (let e = r.waits place (as_is it Expiring (Some tag)) tag (ap timed_in found) refl in cc)
    goes_on Timed None found waiting = (
      timed_right kept l gs r place (as_is it Timed None) (as_is it Finished None) l found (record {
        fewer = λ k. record { none = λ h. h; few = λ h test of. omega arith };
        timer = handle_now Timed None found;
        only = λ tag e. absurd (none-some tag e);
        stands = λ task h. absurd (free task h);
        asks_others = λ k apart. refl;
        asks_here = asked_now Timed None found;
        takes_others = λ k apart. refl;
        takes_here = took_now Timed None found;
      }),
      passes_free input _ gs,
    )
    goes_on Timed (Some tag) found waiting = (
      went_right place (as_is it Timed (Some tag)) (as_is it Finished None) (Revokes tag) found free refl (λ k. tt) (λ k apart. tt)
          (λ ring. revoked_fits (the_key (suc place)) tag l.parts (handle_now Timed (Some tag) found ring)) (asked_now Timed (Some tag) found)
          (took_now Timed (Some tag) found),
      passes_free input _ gs,
    )
    goes_on Expired timer found waiting = absurd (false≢true waiting)
    goes_on Finished timer found waiting = absurd (false≢true waiting)

  -- the lists of a wait
  sorted_free : (p : Parts) (arguments : List Argument) → IsFreeFor (sorted p arguments) kept gs
  sorted_free p arguments =
      at (Items (values (Items (values (values_of (filter (λ it. not (is_pending p it.future)) arguments)))
      ∷ Items (values (values_of (filter (λ it. is_pending p it.future) arguments))) ∷ [])))
    where
      by : (value : Value) (b : Bool) → IsFreeFor
          (elim (if b then Ok value else Err out_of_range) [ Ok value ↦ Answers value | Err fault ↦ Raises fault ]) kept gs
      by value true = tt
      by value false = tt

      at : (value : Value) → IsFreeFor (elim (bounded value) [ Ok value ↦ Answers value | Err fault ↦ Raises fault ]) kept gs
      at value = by value (nat_le (weight_of value) heaviest && nat_le (depth_of value) deepest)

  wait_free : (input : Input) (it : Waiting) → IsFreeFor (wait_woken input it l.parts kept).answer kept gs
  wait_free (Send value) it = sorted_free l.parts it.arguments
  wait_free (Throw fault) it = tt

  pub woken_right : (key place : ℕ) (input : Input) → key ≡ the_key place → IsReady key kept gs → (o : Option Drawn) → slice_get kept.drawn place ≡ o
      → SaidRight (woken o place input l.parts kept) l gs
  woken_right key place input is ready (Some (Waits it)) e = (
    still_right r (revoked it.timer) (λ k. revoked_apart (the_key k) it.timer) (λ k. revoked_books (the_key k) it.timer),
    wait_free input it,
  )
  woken_right key place input is ready (Some (WaitsFor it)) e =
      let now = ready place is in
      goes_on place input it now.0 it.state it.timer e (now.2 it (ap timed_in e))
  woken_right key place input is ready _ e = (r, passes_free input kept gs)

-- ---- a handle that is first runs
pub acted_right : (kept : Gathered) (l : Loop) (gs : List Generator) → KeepsRight kept l gs → (k : ℕ) (handle : Handle) (rest : List Handle)
    → l.parts.pending ≡ handle ∷ rest → handle.dead ≡ false → handle.action ≡ action.Extra (the_key k)
    → CallRight (acted (slice_get kept.drawn k) (record l.parts { pending = rest }) kept) (record l { parts = record l.parts { pending = rest } }) gs
acted_right kept l gs r k handle rest first live is = at (slice_get kept.drawn k) refl
  where
    now : Loop
    now = record l { parts = record l.parts { pending = rest } }

    here : KeepsRight kept (record l { parts = record l.parts { pending = rest } }) gs
    here =
        goes_right r (record l { parts = record l.parts { pending = rest } }) gs (λ j. change_fewer (the_key j) (LeavesPending rest) l.parts (handle, first))
        (λ j. refl) (λ j. refl) (λ task j h. h)

    rung_here : (place : ℕ) (o : Option Drawn) → slice_get kept.drawn k ≡ Some (Rings place) → slice_get kept.drawn place ≡ o
        → CallRight (rung o place (record l.parts { pending = rest }) kept) (record l { parts = record l.parts { pending = rest } }) gs
    rung_here place (Some (Waits it)) e f =
        still_told kept (record l { parts = record l.parts { pending = rest } }) gs here (Some resolved) it.on
    rung_here place (Some (WaitsFor it)) e f =
        let behind = r.ringed k place it (ap ring_in e) (ap timed_in f) in
        let fits = r.rings place it (ap timed_in f) (ap (ring_at kept) (sym behind) ∙ ap ring_in e) in
        let went = taken_fits (the_key (suc place)) it.timer handle rest l.parts first live (is ∙ ap (λ j. action.Extra (the_key j)) behind) fits in
        rings_here kept (record l { parts = record l.parts { pending = rest } }) gs here place it f
        (r.waits place it went.0 (ap timed_in f) went.1.0) went.1.1
    rung_here place _ e f = here

    at : (o : Option Drawn) → slice_get kept.drawn k ≡ o
        → CallRight (acted o (record l.parts { pending = rest }) kept) (record l { parts = record l.parts { pending = rest } }) gs
    at (Some (Tells place future)) e =
        told_right kept (record l { parts = record l.parts { pending = rest } }) gs here place future (slice_get kept.drawn place) refl
    at (Some (Rings place)) e = rung_here place (slice_get kept.drawn place) e refl
    at _ e = here

-- ---- a call of `gather_means`
pub asked_right : (task : ℕ) (code : ℤ) (arguments : List Value) (s : State Gathered) → KeepsRight s.extra s.loop s.generators
    → SaidRight (gather_means.ask task code arguments s) s.loop s.generators
asked_right task code arguments s r = at (wanted_of code)
  where
    of : (it : Option Request) → SaidRight (served it task s.loop.parts s.extra) s.loop s.generators
    of None = (r, tt)
    of (Some it) = serve_right s.extra s.loop s.generators r it task

    at : (wanted : Option Wanted) → SaidRight (asked wanted task code arguments s) s.loop s.generators
    at None = (r, tt)
    at (Some wanted) = of (requested s wanted arguments)
