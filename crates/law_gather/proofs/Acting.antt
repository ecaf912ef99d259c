-- What handles that run and requests that are woken come to makes allowed steps alone.
use Rattle.std.proofs.Common.{◌≡◌, ℕ, ◌-◌, Bool, true, false, cond, List, [], ◌∷◌, ◌++◌, Option, Some, None, slice_get, slice_set, refl, sym, subst, arith}
use Rattle.std.proofs.Common.{append-nil, inl}
use Rattle.std.specs.Option.{option_map_or}
use Rattle.std.specs.Prelude.{◌&&◌, filter, if◌then◌else◌, nat_le, not, Ok, Err}
use Rattle.std.specs.List.{AllByRecursion as Each}
use Rattle.std.proofs.lemmas.Bool.{and_from}
use Rattle.model_value.specs.Input.{Input}
use Rattle.model_value.specs.Value.{Outcome, values}
use Rattle.model_value.specs.declared.input.Input.TheVariants.{Send, Throw}
use Rattle.model_value.specs.declared.outcome.Outcome.TheVariants.{Value as Returned, Failed, Cancelled}
use Rattle.model_value.specs.Weight.{weight_of}
use Rattle.model_value.specs.Depth.{depth_of}
use Rattle.model_says.specs.Operations.{deepest, heaviest, out_of_range}
use Rattle.model_loop.specs.Futures.{future_outcome, is_pending}
use Rattle.model_loop.specs.Loop.{Loop}
use Rattle.model_loop.specs.Parts.{Parts}
use Rattle.model_loop.specs.Tasks.{cancelling, future_of}
use Rattle.model_loop.specs.Timeouts.{timeout_exception}
use Rattle.model_machine.specs.Extra.{Answers, Cancels, ExtraAnswer, ExtraStep, Raises, Revokes, Uncancels, called, key_of, made_by, made_by_all}
use Rattle.model_machine.specs.Sound.{Ids, IsOwned, IsTagOwned, all_made, ids_of, names_made, sends_made}
use Rattle.model_machine.specs.State.{State}
use Rattle.model_reach.specs.Part.{key_at, only_says, passes}
use Rattle.law_runs.specs.Allowed.{AreAllowed, IsAmong, IsAnswerAllowed, IsCallAllowed, IsSaidAllowed, MayCall, owns_at}
use Rattle.law_replies.proofs.Ids.{IsMore, names_up}
use Rattle.law_runs.proofs.Called.{called_more}
use Rattle.model_gather.specs.Gathered.{Argument, Drawn, Expired, Expiring, Finished, Gathered, Gathering, Gathers, Rings, Shields, Tells, Timed, TimedState, TimedWait}
use Rattle.model_gather.specs.Gathered.{Waiting, Waits, WaitsFor, gather_keeps, gather_part, own_in, resolved, settled_as, tag_in, values_of}
use Rattle.model_gather.specs.Gather.{count, gather_told, was_asked}
use Rattle.model_gather.specs.Shield.{shield_told}
use Rattle.model_gather.specs.Wait.{is_over, revoked, sorted, wait_rings, wait_told, wait_woken}
use Rattle.model_gather.specs.WaitFor.{cancels_in, wait_for_rings, wait_for_says, wait_for_woken}
use Rattle.model_gather.specs.Serving.{acted, gather_means, rung, told, woken}
use Rattle.law_gather.proofs.Changing.{Fits, IsMyTag, call_at, call_same, fits_still, on_allowed, says_allowed, settled_on, stays_allowed}
use Rattle.law_gather.proofs.Falling.{IsNone, both_lists, done_list, left_list, passes_once, says_once, sorted_once}
use Rattle.law_gather.proofs.Lists.{flat_among}
use Rattle.law_gather.proofs.Made.{AreMade, count_made}

module _ (running : Option ℕ) (s : State Gathered) (may : MayCall gather_means running s) where
  abbrev Now : Drawn → Type 0
  Now it = Fits running s may s.loop.parts it

  there_now : (place : ℕ) (it : Drawn) → slice_get s.extra.drawn place ≡ Some it → Fits running s may s.loop.parts it
  there_now place it e = fits_still running s may [] tt place it e

  -- ---- its own future gets an outcome, if there is one
  own_settled : (place : ℕ) (it : Drawn) (on : ℕ) (o : Option Outcome) → slice_get s.extra.drawn place ≡ Some it → IsAmong (own_in it) on
      → Each (IsOwned s.loop.parts) (own_in it) → IsOwned s.loop.parts on → AreMade (ids_of s) o
      → AreAllowed (owns_at (ids_of s) (gather_keeps s.extra) s.loop.parts) (settled_as o on) s.loop
  own_settled place it on o e mine all owned made =
      on_allowed (owns_at (ids_of s) (gather_keeps s.extra) s.loop.parts) on 0
      (inl (flat_among own_in s.extra.drawn place it on e mine)) (settled_as o on) s.loop
      (record { more = omega arith; owned = owned })
      (settled_on (ids_of s) on 0 o made)

  ended_made : (id : ℕ) (o : Option Outcome) → future_outcome s.loop.parts id ≡ o → AreMade (ids_of s) o
  ended_made id None e = tt
  ended_made id (Some (Returned value)) e = may.outcomes id value e
  ended_made id (Some (Failed fault)) e = refl
  ended_made id (Some Cancelled) e = refl

  -- ---- a member is done
  gather_told_allowed : (place member : ℕ) (it : Gathering) → slice_get s.extra.drawn place ≡ Some (Gathers it)
      → IsCallAllowed gather_means None (gather_told place member it s.loop.parts s.extra) s
  gather_told_allowed place member it e =
      let asked = was_asked s.loop.parts it.outer in
      let owned = (there_now place (Gathers it) e).own in
      let steps = settled_as (count s.loop.parts asked member it).outcome it.outer in
      let ok = own_settled place (Gathers it) it.outer (count s.loop.parts asked member it).outcome e (0, refl) owned owned.0
      (count_made (ids_of s) s.loop.parts may.outcomes asked member it) in
      let f = fits_still running s may steps ok place (Gathers it) e in
      call_at running s may steps ok None place (Gathers (count s.loop.parts asked member it).now) (record {
        tasks = f.tasks;
        futures = f.futures;
        own = f.own;
        apart = f.apart;
        mine = f.mine;
        tags = f.tags;
        my_tags = f.my_tags;
        values = f.values;
      })

  abbrev resolved_if : Bool → Option Outcome
  resolved_if over = if over then Some resolved else None

  resolved_made : (over : Bool) → AreMade (ids_of s) (resolved_if over)
  resolved_made true = refl
  resolved_made false = tt

  abbrev wait_now : Waiting → Waiting
  wait_now it = record it { left = it.left - 1 }

  wait_told_allowed : (place member : ℕ) (it : Waiting) → slice_get s.extra.drawn place ≡ Some (Waits it)
      → IsCallAllowed gather_means None (wait_told place member it s.loop.parts s.extra) s
  wait_told_allowed place member it e = at (option_map_or (λ outcome. is_over outcome (wait_now it)) (future_outcome s.loop.parts member) false)
    where
      at : (over : Bool) → IsCallAllowed gather_means None
          (record { state = record s.extra { drawn = slice_set s.extra.drawn place (Waits (wait_now it)) }; steps = settled_as (resolved_if over) it.on }) s
      at over =
          let owned = (there_now place (Waits it) e).own in
          let ok = own_settled place (Waits it) it.on (resolved_if over) e (0, refl) owned owned.0 (resolved_made over) in
          let f = fits_still running s may (settled_as (resolved_if over) it.on) ok place (Waits it) e in
          call_at running s may (settled_as (resolved_if over) it.on) ok None place (Waits (wait_now it)) (record {
            tasks = f.tasks;
            futures = f.futures;
            own = f.own;
            apart = f.apart;
            mine = f.mine;
            tags = f.tags;
            my_tags = f.my_tags;
            values = f.values;
          })

  shield_told_allowed : (place on inner : ℕ) → slice_get s.extra.drawn place ≡ Some (Shields on)
      → IsCallAllowed gather_means None (shield_told on inner s.loop.parts s.extra) s
  shield_told_allowed place on inner e =
      let owned = (there_now place (Shields on) e).own in
      call_same running s may (settled_as (future_outcome s.loop.parts inner) on)
      (own_settled place (Shields on) on (future_outcome s.loop.parts inner) e (0, refl) owned owned.0
      (ended_made inner (future_outcome s.loop.parts inner) refl)) None

  told_allowed : (o : Option Drawn) (place future : ℕ) → slice_get s.extra.drawn place ≡ o
      → IsCallAllowed gather_means None (told o place future s.loop.parts s.extra) s
  told_allowed None place future e = stays_allowed running s may None
  told_allowed (Some (Gathers it)) place future e = gather_told_allowed place future it e
  told_allowed (Some (Waits it)) place future e = wait_told_allowed place future it e
  told_allowed (Some (Shields on)) place future e = shield_told_allowed place on future e
  told_allowed (Some _) place future e = stays_allowed running s may None

  -- ---- a time is over
  wait_rings_allowed : (place : ℕ) (it : Waiting) → slice_get s.extra.drawn place ≡ Some (Waits it)
      → IsCallAllowed gather_means None (wait_rings it s.extra) s
  wait_rings_allowed place it e =
      let owned = (there_now place (Waits it) e).own in
      call_same running s may (settled_as (Some resolved) it.on)
      (own_settled place (Waits it) it.on (Some resolved) e (0, refl) owned owned.0 refl) None

  wait_for_rings_allowed : (place : ℕ) (it : TimedWait) → slice_get s.extra.drawn place ≡ Some (WaitsFor it)
      → IsCallAllowed gather_means None (wait_for_rings place it s.loop.parts s.extra) s
  wait_for_rings_allowed place it e =
      let f = fits_still running s may (Cancels (key_at gather_part place) (future_of s.loop.parts it.task) ∷ []) (tt, tt) place (WaitsFor it) e in
      call_at running s may (Cancels (key_at gather_part place) (future_of s.loop.parts it.task) ∷ []) (tt, tt) None place
      (WaitsFor (record it { state = Expiring; timer = None })) (record {
        tasks = f.tasks;
        futures = f.futures;
        own = f.own;
        apart = f.apart;
        mine = f.mine;
        tags = tt;
        my_tags = tt;
        values = f.values;
      })

  rung_allowed : (o : Option Drawn) (place : ℕ) → slice_get s.extra.drawn place ≡ o
      → IsCallAllowed gather_means None (rung o place s.loop.parts s.extra) s
  rung_allowed None place e = stays_allowed running s may None
  rung_allowed (Some (Waits it)) place e = wait_rings_allowed place it e
  rung_allowed (Some (WaitsFor it)) place e = wait_for_rings_allowed place it e
  rung_allowed (Some _) place e = stays_allowed running s may None

  pub acted_allowed : (o : Option Drawn) → IsCallAllowed gather_means None (acted o s.loop.parts s.extra) s
  acted_allowed None = stays_allowed running s may None
  acted_allowed (Some (Tells place future)) = told_allowed (slice_get s.extra.drawn place) place future refl
  acted_allowed (Some (Rings place)) = rung_allowed (slice_get s.extra.drawn place) place refl
  acted_allowed (Some _) = stays_allowed running s may None

  -- ---- its task goes on
  passes_made : (input : Input) (n : Ids) → sends_made n input ≡ true → (t : State Gathered) → IsMore n (ids_of t)
      → IsAnswerAllowed (passes input) t
  passes_made (Send value) n made t more = names_up n (ids_of t) more value made
  passes_made (Throw fault) n made t more = tt

  abbrev tag_list : Option ℕ → List ℕ
  tag_list timer = option_map_or (λ (tag : ℕ). tag ∷ []) timer []

  -- a timer that it has is given up
  revoked_allowed : (place : ℕ) (it : Drawn) (timer : Option ℕ) (rest : List ExtraStep) → slice_get s.extra.drawn place ≡ Some it
      → tag_in it ≡ tag_list timer → ((l : Loop) → AreAllowed (owns_at (ids_of s) (gather_keeps s.extra) s.loop.parts) rest l)
      → AreAllowed (owns_at (ids_of s) (gather_keeps s.extra) s.loop.parts) (revoked timer ++ rest) s.loop
  revoked_allowed place it None rest e is ok = ok s.loop
  revoked_allowed place it (Some tag) rest e is ok = (
    (
      inl (flat_among tag_in s.extra.drawn place it tag e (subst (λ tags. IsAmong tags tag) (sym is) (0, refl))),
      (subst (Each (IsTagOwned s.loop.parts)) is (there_now place it e).tags).0,
    ),
    ok (made_by (Revokes tag) s.loop),
  )

  only_revoked : (place : ℕ) (it : Drawn) (timer : Option ℕ) → slice_get s.extra.drawn place ≡ Some it → tag_in it ≡ tag_list timer
      → AreAllowed (owns_at (ids_of s) (gather_keeps s.extra) s.loop.parts) (revoked timer) s.loop
  only_revoked place it timer e is =
      subst (λ steps. AreAllowed (owns_at (ids_of s) (gather_keeps s.extra) s.loop.parts) steps s.loop) (append-nil (revoked timer))
      (revoked_allowed place it timer [] e is (λ l. tt))

  -- the lists of a wait
  rows_made : (n : Ids) (test : Argument → Bool) (arguments : List Argument) → Each (λ (it : Argument). names_made n it.value ≡ true) arguments
      → all_made n (values (values_of (filter test arguments))) ≡ true
  rows_made n test [] all = refl
  rows_made n test (it ∷ others) all = at (rows_made n test others all.1) (test it)
    where
      at : all_made n (values (values_of (filter test others))) ≡ true → (b : Bool)
          → all_made n (values (values_of (cond b (it ∷ filter test others) (filter test others)))) ≡ true
      at rest true = and_from (names_made n it.value) _ all.0 rest
      at rest false = rest

  unmapped : (n : Ids) (arguments : List Argument) → Each (λ x. names_made n x ≡ true) (values_of arguments)
      → Each (λ (it : Argument). names_made n it.value ≡ true) arguments
  unmapped n [] all = tt
  unmapped n (it ∷ others) all = (all.0, unmapped n others all.1)

  sorted_made : (p : Parts) (arguments : List Argument) (t : State Gathered) → IsMore (ids_of s) (ids_of t)
      → Each (λ (it : Argument). names_made (ids_of s) it.value ≡ true) arguments → IsAnswerAllowed (sorted p arguments) t
  sorted_made p arguments t more all =
      at (nat_le (weight_of (both_lists p arguments)) heaviest && nat_le (depth_of (both_lists p arguments)) deepest)
    where
      at : (b : Bool) → IsAnswerAllowed
          (elim (if b then Ok (both_lists p arguments) else Err out_of_range) [ Ok value ↦ Answers value | Err fault ↦ Raises fault ]) t
      at true =
          names_up (ids_of s) (ids_of t) more (both_lists p arguments)
          (and_from (names_made (ids_of s) (done_list p arguments)) _
          (rows_made (ids_of s) (λ it. not (is_pending p it.future)) arguments all)
          (and_from (names_made (ids_of s) (left_list p arguments)) _
          (rows_made (ids_of s) (λ it. is_pending p it.future) arguments all) refl))
      at false = tt

  wait_woken_said : (key place : ℕ) (input : Input) (it : Waiting) → slice_get s.extra.drawn place ≡ Some (Waits it)
      → IsSaidAllowed gather_means (Some key) (wait_woken input it s.loop.parts s.extra) s
  wait_woken_said key place input it e = record {
    call = call_same running s may (revoked it.timer) ok (Some key);
    answer = says input;
    key = λ next is. absurd (subst IsNone is (none input));
  }
    where
      ok : AreAllowed (owns_at (ids_of s) (gather_keeps s.extra) s.loop.parts) (revoked it.timer) s.loop
      ok = only_revoked place (Waits it) it.timer e refl

      says : (input : Input) → IsAnswerAllowed (wait_woken input it s.loop.parts s.extra).answer
          (called (wait_woken input it s.loop.parts s.extra).call s)
      says (Send value) = sorted_made s.loop.parts it.arguments (called (wait_woken (Send value) it s.loop.parts s.extra).call s)
          (called_more gather_means (wait_woken (Send value) it s.loop.parts s.extra).call s ok)
          (unmapped _ it.arguments (fits_still running s may (revoked it.timer) ok place (Waits it) e).values)
      says (Throw fault) = tt

      none : (input : Input) → IsNone (key_of (wait_woken input it s.loop.parts s.extra).answer)
      none (Send value) = sorted_once s.loop.parts it.arguments
      none (Throw fault) = tt

  timed_said : (key place : ℕ) (it : TimedWait) (state : TimedState) (timer : Option ℕ) (steps : List ExtraStep) (answer : ExtraAnswer)
      → slice_get s.extra.drawn place ≡ Some (WaitsFor it) → AreAllowed (owns_at (ids_of s) (gather_keeps s.extra) s.loop.parts) steps s.loop
      → ((P : ℕ → Type 0) → Each P (tag_list it.timer) → Each P (tag_list timer))
      → ((t : State Gathered) → IsMore (ids_of s) (ids_of t) → IsAnswerAllowed answer t) → IsNone (key_of answer)
      → IsSaidAllowed gather_means (Some key) (record {
        call = record {
          state = record s.extra { drawn = slice_set s.extra.drawn place (WaitsFor (record it { state = state; timer = timer })) };
          steps = steps;
        };
        answer = answer;
      }) s
  timed_said key place it state timer steps answer e all tags says none =
      let f = fits_still running s may steps all place (WaitsFor it) e in
      record {
        call = call_at running s may steps all (Some key) place (WaitsFor (record it { state = state; timer = timer })) (record {
          tasks = f.tasks;
          futures = f.futures;
          own = f.own;
          apart = f.apart;
          mine = f.mine;
          tags = tags (IsTagOwned (made_by_all steps s.loop).parts) f.tags;
          my_tags = tags (IsMyTag running s may) f.my_tags;
          values = f.values;
        });
        answer = says _ (called_more gather_means (record { state = s.extra; steps = steps }) s all);
        key = λ next is. absurd (subst IsNone is none);
      }

  over_said : (key place : ℕ) (input : Input) (it : TimedWait) → sends_made (ids_of s) input ≡ true
      → slice_get s.extra.drawn place ≡ Some (WaitsFor it) → IsSaidAllowed gather_means (Some key) (record {
        call = record {
          state = record s.extra { drawn = slice_set s.extra.drawn place (WaitsFor (record it { state = Finished; timer = None })) };
          steps = revoked it.timer;
        };
        answer = passes input;
      }) s
  over_said key place input it made e =
      timed_said key place it Finished None (revoked it.timer) (passes input) e (only_revoked place (WaitsFor it) it.timer e refl) (λ P h. tt)
      (λ t more. passes_made input (ids_of s) made t more) (passes_once input)

  wait_for_says_made : (input : Input) (it : TimedWait) → sends_made (ids_of s) input ≡ true → (t : State Gathered)
      → IsMore (ids_of s) (ids_of t) → IsAnswerAllowed (wait_for_says input it s.loop.parts) t
  wait_for_says_made input it made t more = at (nat_le (cancelling s.loop.parts it.task - 1) it.stored && cancels_in input)
    where
      at : (b : Bool) → IsAnswerAllowed (if b then Raises timeout_exception else passes input) t
      at true = tt
      at false = passes_made input (ids_of s) made t more

  wait_for_woken_said : (key place : ℕ) (input : Input) (it : TimedWait) (state : TimedState) → it.state ≡ state
      → sends_made (ids_of s) input ≡ true → slice_get s.extra.drawn place ≡ Some (WaitsFor it)
      → IsSaidAllowed gather_means (Some key) (wait_for_woken place input (record it { state = state }) s.loop.parts s.extra) s
  wait_for_woken_said key place input it Expiring is made e =
      timed_said key place it Expired it.timer (revoked it.timer ++ Uncancels (key_at gather_part place) it.task ∷ [])
      (wait_for_says input it s.loop.parts) e
      (revoked_allowed place (WaitsFor it) it.timer (Uncancels (key_at gather_part place) it.task ∷ []) e refl (λ l. (tt, tt))) (λ P h. h)
      (wait_for_says_made input it made) (says_once input it s.loop.parts)
  wait_for_woken_said key place input it Timed is made e = over_said key place input it made e
  wait_for_woken_said key place input it Expired is made e = over_said key place input it made e
  wait_for_woken_said key place input it Finished is made e = over_said key place input it made e

  passes_said : (key : ℕ) (input : Input) → sends_made (ids_of s) input ≡ true
      → IsSaidAllowed gather_means (Some key) (only_says (passes input) s.extra) s
  passes_said key (Send value) made = says_allowed running s may (Some key) (Answers value) made tt
  passes_said key (Throw fault) made = says_allowed running s may (Some key) (Raises fault) tt tt

  pub woken_said : (o : Option Drawn) (key place : ℕ) (input : Input) → sends_made (ids_of s) input ≡ true
      → slice_get s.extra.drawn place ≡ o → IsSaidAllowed gather_means (Some key) (woken o place input s.loop.parts s.extra) s
  woken_said None key place input made e = passes_said key input made
  woken_said (Some (Waits it)) key place input made e = wait_woken_said key place input it e
  woken_said (Some (WaitsFor it)) key place input made e = wait_for_woken_said key place input it it.state refl made e
  woken_said (Some _) key place input made e = passes_said key input made
