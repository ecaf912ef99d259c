-- `gather`, `wait`, `shield` and `wait_for` keep to their own futures.
use Rattle.std.proofs.Common.{◌≡◌, inl, inr, ℕ, zero, suc, ◌+◌, ℤ, Bool, true, false, List, [], ◌∷◌, ◌++◌, Option, Some, None, length, map, refl, sym, ap}
use Rattle.std.proofs.Common.{subst, ◌∙◌}
use Rattle.std.proofs.Common.{append-nil, append_assoc, slice_get, slice_set, arith, le_refl, length-append}
use Rattle.std.specs.Prelude.{if◌then◌else◌, filter, not}
use Rattle.std.specs.List.{AllByRecursion as Each, flat_map}
use Rattle.model_value.specs.Input.{Input}
use Rattle.model_value.specs.Value.{Outcome, Value}
use Rattle.model_loop.specs.Futures.{future_outcome, is_pending, next_future}
use Rattle.model_loop.specs.Parts.{Many, Parts, Plain}
use Rattle.model_says.specs.Operations.{out_of_range}
use Rattle.model_machine.specs.Extra as extra
use Rattle.model_machine.specs.Extra.{ExtraAnswer, ExtraCall, ExtraSaid, ExtraStep, made_by, made_by_all}
use Rattle.model_machine.specs.State.{State}
use Rattle.model_machine.specs.Outcomes.{input_of}
use Rattle.model_reach.specs.Part.{can_draw, key_at, passes, place_of, refuses, stays}
use Rattle.model_gather.specs.Gathered.{Answered, Argument, Drawn, Expired, Expiring, Finished, Gathered, Gathering, Gathers, Rings, Shields, Tells, Timed}
use Rattle.model_gather.specs.Gathered.{TimedState}
use Rattle.model_gather.specs.Gathered.{TimedWait, WaitMode, Waits, WaitsFor, at_once, distinct, distinct_arguments, drawn_after, drawn_at, draws}
use Rattle.model_gather.specs.Gathered.{futures_of, gather_part, own_in, registered_from, resolved, settled_as}
use Rattle.model_gather.specs.Gather.{count, count_all, gather, gather_all}
use Rattle.model_gather.specs.Serving.{OfGather, OfShield, OfWait, OfWaitFor, Request, Wanted, acted, asked, gather_means, requested, rung, serve, served, told}
use Rattle.model_gather.specs.Serving.{wanted_of, woken}
use Rattle.model_gather.specs.Shield.{shield, shield_open}
use Rattle.model_gather.specs.Wait.{handle_if_some, one_if_some, revoked, rings_after, wait, wait_all}
use Rattle.model_gather.specs.WaitFor.{bad_timeout, may_time, wait_for, wait_for_all, wait_for_says, wait_for_woken}
use Rattle.law_runs.specs.Allowed.{IsAmong, IsOwn}
use Rattle.law_sync.proofs.Lists.{among_left, among_right, each_append, each_from}
use Rattle.law_heeded.specs.Owned.{IsCallKept, KeepsToItsFutures, SettlesOwn, WasOwnOrMade}
use Rattle.law_heeded.proofs.Owning.{steps_more}

-- ---- what is kept, and whose it is
abbrev own_all : List Drawn → List ℕ
own_all drawn = flat_map own_in drawn

own_at : (drawn : List Drawn) (place : ℕ) (it : Drawn) → slice_get drawn place ≡ Some it → (id : ℕ) → IsAmong (own_in it) id → IsAmong (own_all drawn) id
own_at [] place it e id among = absurd (cc)
own_at (x ∷ drawn) zero it e id among =
    among_left (own_in x) (own_all drawn) id (subst (λ d. IsAmong (own_in d) id) (sym (same x it e)) among)
  where
    same : (x it : Drawn) → Some x ≡ Some it → x ≡ it
    same x it e = cc
own_at (x ∷ drawn) (suc place) it e id among = among_right (own_in x) (own_all drawn) id (own_at drawn place it e id among)

-- one changes, and has what it had
own_set : (drawn : List Drawn) (place : ℕ) (old new : Drawn) → slice_get drawn place ≡ Some old → own_in new ≡ own_in old
    → own_all (slice_set drawn place new) ≡ own_all drawn
own_set [] place old new e same = absurd (cc)
own_set (x ∷ drawn) zero old new e same = ap (λ own. own ++ own_all drawn) (same ∙ ap own_in (is x old e))
  where
    is : (x old : Drawn) → Some x ≡ Some old → old ≡ x
    is x old e = cc
own_set (x ∷ drawn) (suc place) old new e same = ap (λ own. own_in x ++ own) (own_set drawn place old new e same)

own_after : (drawn more : List Drawn) → own_all (drawn ++ more) ≡ own_all drawn ++ own_all more
own_after [] more = refl
own_after (x ∷ drawn) more = ap (λ own. own_in x ++ own) (own_after drawn more) ∙ sym (append_assoc (own_in x) (own_all drawn) (own_all more))

no_own : (place : ℕ) (ids : List ℕ) → own_all (map (Tells place) ids) ≡ []
no_own place [] = refl
no_own place (id ∷ ids) = no_own place ids

no_timer : (delay : Option ℤ) (place : ℕ) → own_all (handle_if_some delay place) ≡ []
no_timer None place = refl
no_timer (Some delay) place = refl

-- counting leaves the future
counted_outer : (p : Parts) (was_asked : Bool) (members : List ℕ) (it : Gathering) → (count_all p was_asked members it).now.outer ≡ it.outer
counted_outer p was_asked [] it = refl
counted_outer p was_asked (member ∷ members) it = counted_outer p was_asked members (count p was_asked member it).now

module _ (s : State Gathered) where
  abbrev kept : Gathered
  kept = s.extra

  abbrev own : List ℕ
  own = own_all s.extra.drawn

  abbrev first : ℕ
  first = next_future s.loop.parts

  abbrev Fine : List ExtraStep → Type 0
  Fine steps = Each (SettlesOwn own first) steps

  -- ---- steps
  registers_fine : (part place : ℕ) (ids : List ℕ) → Fine (registered_from part place ids)
  registers_fine part place [] = tt
  registers_fine part place (id ∷ ids) = (tt, registers_fine part (suc place) ids)

  settled_fine : (o : Option Outcome) (future : ℕ) → IsOwn own first future → Fine (settled_as o future)
  settled_fine None future is = tt
  settled_fine (Some outcome) future is = (is, tt)

  rings_fine : (delay : Option ℤ) (key : ℕ) (p : Parts) → Fine (rings_after delay key p)
  rings_fine None key p = tt
  rings_fine (Some delay) key p = (tt, tt)

  revoked_fine : (timer : Option ℕ) → Fine (revoked timer)
  revoked_fine None = tt
  revoked_fine (Some tag) = (tt, tt)

  abbrev Was : List ExtraStep → ℕ → Type 0
  Was steps = WasOwnOrMade own first (next_future (made_by_all steps s.loop).parts)

  was_own : (steps : List ExtraStep) → Each (Was steps) own
  was_own steps = each_from (Was steps) own (λ id among. inl among)

  -- ---- calls by which the same futures are its own
  same_kept : (drawn : List Drawn) (steps : List ExtraStep) → own_all drawn ≡ own → Fine steps
      → IsCallKept gather_means (record { state = record { drawn = drawn }; steps = steps }) s
  same_kept drawn steps same fine = record { settles = fine; own = subst (Each (Was steps)) (sym same) (was_own steps) }

  still_kept : IsCallKept gather_means (stays s.extra) s
  still_kept = same_kept s.extra.drawn [] refl tt

  -- one more is its own, which it makes first
  one_kept : (makes : ExtraStep) (steps : List ExtraStep) (more : List Drawn) → own_all more ≡ first ∷ []
      → next_future (made_by makes s.loop).parts ≡ first + 1 → SettlesOwn own first makes → Fine steps
      → IsCallKept gather_means (record { state = drawn_after more s.extra; steps = makes ∷ steps }) s
  one_kept makes steps more is makes_one fine_first fine = record {
    settles = (fine_first, fine);
    own =
        let grows = steps_more steps (made_by makes s.loop) in
        subst (Each (Was (makes ∷ steps))) (sym (own_after s.extra.drawn more ∙ ap (λ ids. own ++ ids) is))
        (each_append (Was (makes ∷ steps)) own (first ∷ []) (was_own (makes ∷ steps)) (inr (le_refl first, omega (arith, grows, makes_one)), tt));
  }

  none_kept : (steps : List ExtraStep) (more : List Drawn) → own_all more ≡ [] → Fine steps
      → IsCallKept gather_means (record { state = drawn_after more s.extra; steps = steps }) s
  none_kept steps more is fine =
      same_kept (s.extra.drawn ++ more) steps (own_after s.extra.drawn more ∙ ap (λ ids. own ++ ids) is ∙ append-nil own) fine

  -- where keys can be drawn
  draws_kept : (more : ℕ) (said : ExtraSaid Gathered) → IsCallKept gather_means said.call s → IsCallKept gather_means (draws more said s.extra).call s
  draws_kept more said is = at (can_draw gather_part (length s.extra.drawn) more)
    where
      at : (b : Bool) → IsCallKept gather_means (ExtraSaid.call (if b then said else refuses out_of_range s.extra)) s
      at true = is
      at false = still_kept

  once_kept : (answer : ExtraAnswer) → IsCallKept gather_means (at_once answer s.extra).call s
  once_kept answer =
      draws_kept 1 (record { call = record { state = drawn_after (Answered ∷ []) s.extra; steps = [] }; answer = answer })
      (none_kept [] (Answered ∷ []) refl tt)

  makes_plain : next_future (made_by extra.MakesPlain s.loop).parts ≡ first + 1
  makes_plain = length-append s.loop.parts.futures (record { kind = Plain; outcome = None; callbacks = [] } ∷ [])

  makes_many : (members : List ℕ) → next_future (made_by (extra.MakesMany members) s.loop).parts ≡ first + 1
  makes_many members = length-append s.loop.parts.futures (record { kind = Many members false; outcome = None; callbacks = [] } ∷ [])

  -- ---- requests
  gather_kept : (as_items : Bool) (awaited : List ℕ) → IsCallKept gather_means (gather as_items awaited s.loop.parts s.extra).call s
  gather_kept as_items [] = once_kept _
  gather_kept as_items (id ∷ ids) =
      let members = distinct (id ∷ ids) in
      let open_ = filter (is_pending s.loop.parts) members in
      draws_kept (1 + length open_) (gather_all as_items (id ∷ ids) members s.loop.parts s.extra)
      (one_kept (extra.MakesMany members) _ _
      (ap (λ (future : ℕ). future ∷ own_all (map (Tells (length s.extra.drawn)) open_))
      (counted_outer s.loop.parts false (filter (λ member. not (is_pending s.loop.parts member)) members)
      (record { outer = first; awaited = id ∷ ids; as_items = as_items; left = length members }))
      ∙ ap (λ own_. first ∷ own_) (no_own (length s.extra.drawn) open_)) (makes_many members) tt
      (each_append (SettlesOwn own first) (registered_from gather_part (suc (length s.extra.drawn)) open_) _
      (registers_fine gather_part (suc (length s.extra.drawn)) open_) (settled_fine _ first (inr (le_refl first)))))

  wait_all_kept : (mode : WaitMode) (delay : Option ℤ) (arguments : List Argument)
      → IsCallKept gather_means (wait_all mode delay arguments s.loop.parts s.extra).call s
  wait_all_kept mode delay arguments =
      let place = length s.extra.drawn in
      let members = futures_of arguments in
      one_kept extra.MakesPlain _ _
      (ap (λ own_. first ∷ own_) (own_after (map (Tells place) members) (handle_if_some delay place)
      ∙ ap (λ own_. own_ ++ own_all (handle_if_some delay place)) (no_own place members) ∙ no_timer delay place)) makes_plain tt
      (each_append (SettlesOwn own first) (registered_from gather_part (suc place) members)
      (rings_after delay (key_at gather_part (suc place + length members)) s.loop.parts) (registers_fine gather_part (suc place) members)
      (rings_fine delay (key_at gather_part (suc place + length members)) s.loop.parts))

  wait_kept : (over : Option WaitMode) (delay : Option ℤ) (arguments : List Argument)
      → IsCallKept gather_means (wait over delay arguments s.loop.parts s.extra).call s
  wait_kept over delay [] = once_kept _
  wait_kept None delay (it ∷ others) = once_kept _
  wait_kept (Some mode) delay (it ∷ others) = draws_kept _ _ (wait_all_kept mode delay (distinct_arguments (it ∷ others)))

  shield_kept : (inner : ℕ) → IsCallKept gather_means (shield inner s.loop.parts s.extra).call s
  shield_kept inner = at (future_outcome s.loop.parts inner)
    where
      at : (o : Option Outcome)
          → IsCallKept gather_means (ExtraSaid.call (elim o [
            | Some outcome ↦ at_once (passes (input_of outcome)) s.extra
            | None ↦ draws 2 (shield_open inner s.loop.parts s.extra) s.extra
          ])) s
      at (Some outcome) = once_kept _
      at None = draws_kept 2 (shield_open inner s.loop.parts s.extra) (one_kept extra.MakesPlain _ _ refl makes_plain tt (tt, tt))

  wait_for_kept : (task on : ℕ) (delay : Option ℤ) → IsCallKept gather_means (wait_for task on delay s.loop.parts s.extra).call s
  wait_for_kept task on delay = at (may_time delay)
    where
      all : IsCallKept gather_means (wait_for_all task on delay s.loop.parts s.extra).call s
      all = none_kept _ _ (no_timer delay (length s.extra.drawn)) (rings_fine delay _ s.loop.parts)

      at : (b : Bool)
          → IsCallKept gather_means (ExtraSaid.call (if b then draws (1 + one_if_some delay) (wait_for_all task on delay s.loop.parts s.extra) s.extra
          else at_once (extra.Raises bad_timeout) s.extra)) s
      at true = draws_kept _ (wait_for_all task on delay s.loop.parts s.extra) all
      at false = once_kept _

  serve_kept : (it : Request) (task : ℕ) → IsCallKept gather_means (serve it task s.loop.parts s.extra).call s
  serve_kept (OfGather as_items awaited) task = gather_kept as_items awaited
  serve_kept (OfWait over delay arguments) task = wait_kept over delay arguments
  serve_kept (OfShield inner) task = shield_kept inner
  serve_kept (OfWaitFor on delay) task = wait_for_kept task on delay

  served_kept : (o : Option Request) (task : ℕ) → IsCallKept gather_means (served o task s.loop.parts s.extra).call s
  served_kept None task = still_kept
  served_kept (Some it) task = serve_kept it task

  asked_kept : (o : Option Wanted) (task : ℕ) (code : ℤ) (arguments : List Value) → IsCallKept gather_means (asked o task code arguments s).call s
  asked_kept None task code arguments = still_kept
  asked_kept (Some wanted) task code arguments = served_kept (requested s wanted arguments) task

  -- ---- what is woken
  set_kept : (place : ℕ) (old new : Drawn) (steps : List ExtraStep) → slice_get s.extra.drawn place ≡ Some old → own_in new ≡ own_in old → Fine steps
      → IsCallKept gather_means (record { state = drawn_at place new s.extra; steps = steps }) s
  set_kept place old new steps e same fine = same_kept (slice_set s.extra.drawn place new) steps (own_set s.extra.drawn place old new e same) fine

  timed_kept : (place : ℕ) (input : Input) (it : TimedWait) → slice_get s.extra.drawn place ≡ Some (WaitsFor it)
      → IsCallKept gather_means (wait_for_woken place input it s.loop.parts s.extra).call s
  timed_kept place input it e = at it.state
    where
      last : IsCallKept gather_means (record {
        state = drawn_at place (WaitsFor (record it { state = Finished; timer = None })) s.extra;
        steps = revoked it.timer;
      }) s
      last = set_kept place (WaitsFor it) (WaitsFor (record it { state = Finished; timer = None })) (revoked it.timer) e refl (revoked_fine it.timer)

      at : (state : TimedState)
          → IsCallKept gather_means (ExtraSaid.call (elim state [
            | Expiring ↦ record {
              call = record {
                state = drawn_at place (WaitsFor (record it { state = Expired })) s.extra;
                steps = revoked it.timer ++ extra.Uncancels (key_at gather_part place) it.task ∷ [];
              };
              answer = wait_for_says input it s.loop.parts;
            }
            | _ ↦ record {
              call = record {
                state = drawn_at place (WaitsFor (record it { state = Finished; timer = None })) s.extra;
                steps = revoked it.timer;
              };
              answer = passes input;
            }
          ])) s
      at Timed = last
      at Expiring =
          set_kept place (WaitsFor it) (WaitsFor (record it { state = Expired })) _ e refl
          (each_append (SettlesOwn own first) (revoked it.timer) (extra.Uncancels (key_at gather_part place) it.task ∷ []) (revoked_fine it.timer) (tt, tt))
      at Expired = last
      at Finished = last

  woken_kept : (o : Option Drawn) (place : ℕ) (input : Input) → slice_get s.extra.drawn place ≡ o
      → IsCallKept gather_means (woken o place input s.loop.parts s.extra).call s
  woken_kept (Some (Waits it)) place input e = same_kept s.extra.drawn (revoked it.timer) refl (revoked_fine it.timer)
  woken_kept (Some (WaitsFor it)) place input e = timed_kept place input it e
  woken_kept None place input e = still_kept
  woken_kept (Some Answered) place input e = still_kept
  woken_kept (Some (Gathers it)) place input e = still_kept
  woken_kept (Some (Shields on)) place input e = still_kept
  woken_kept (Some (Tells other future)) place input e = still_kept
  woken_kept (Some (Rings other)) place input e = still_kept

  -- ---- handles
  is_own_at : (place : ℕ) (it : Drawn) (id : ℕ) → slice_get s.extra.drawn place ≡ Some it → own_in it ≡ id ∷ [] → IsOwn own first id
  is_own_at place it id e is = inl (own_at s.extra.drawn place it e id (subst (λ ids. IsAmong ids id) (sym is) (0, refl)))

  told_kept : (o : Option Drawn) (place future : ℕ) → slice_get s.extra.drawn place ≡ o
      → IsCallKept gather_means (told o place future s.loop.parts s.extra) s
  told_kept (Some (Gathers it)) place future e =
      set_kept place (Gathers it) _ _ e refl (settled_fine _ it.outer (is_own_at place (Gathers it) it.outer e refl))
  told_kept (Some (Waits it)) place future e =
      set_kept place (Waits it) _ _ e refl (settled_fine _ it.on (is_own_at place (Waits it) it.on e refl))
  told_kept (Some (Shields on)) place future e =
      same_kept s.extra.drawn _ refl (settled_fine _ on (is_own_at place (Shields on) on e refl))
  told_kept None place future e = still_kept
  told_kept (Some Answered) place future e = still_kept
  told_kept (Some (WaitsFor it)) place future e = still_kept
  told_kept (Some (Tells other member)) place future e = still_kept
  told_kept (Some (Rings other)) place future e = still_kept

  rung_kept : (o : Option Drawn) (place : ℕ) → slice_get s.extra.drawn place ≡ o → IsCallKept gather_means (rung o place s.loop.parts s.extra) s
  rung_kept (Some (Waits it)) place e =
      same_kept s.extra.drawn (settled_as (Some resolved) it.on) refl
      (settled_fine (Some resolved) it.on (is_own_at place (Waits it) it.on e refl))
  rung_kept (Some (WaitsFor it)) place e = set_kept place (WaitsFor it) _ _ e refl (tt, tt)
  rung_kept None place e = still_kept
  rung_kept (Some Answered) place e = still_kept
  rung_kept (Some (Gathers it)) place e = still_kept
  rung_kept (Some (Shields on)) place e = still_kept
  rung_kept (Some (Tells other member)) place e = still_kept
  rung_kept (Some (Rings other)) place e = still_kept

  acted_kept : (o : Option Drawn) → IsCallKept gather_means (acted o s.loop.parts s.extra) s
  acted_kept (Some (Tells place future)) = told_kept (slice_get s.extra.drawn place) place future refl
  acted_kept (Some (Rings place)) = rung_kept (slice_get s.extra.drawn place) place refl
  acted_kept None = still_kept
  acted_kept (Some Answered) = still_kept
  acted_kept (Some (Gathers it)) = still_kept
  acted_kept (Some (Waits it)) = still_kept
  acted_kept (Some (Shields on)) = still_kept
  acted_kept (Some (WaitsFor it)) = still_kept

pub gather_keeps_to : KeepsToItsFutures gather_means
gather_keeps_to = record {
  ask = λ task code arguments s. asked_kept s (wanted_of code) task code arguments;
  wake = λ key input s. woken_kept s (slice_get s.extra.drawn (place_of gather_part key)) (place_of gather_part key) input refl;
  act = λ key s. acted_kept s (slice_get s.extra.drawn (place_of gather_part key));
  item = λ code bytes s. still_kept s;
}
