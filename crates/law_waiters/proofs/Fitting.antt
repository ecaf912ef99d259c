-- The future of each gather stands for its members, and those of waits and shields are plain ones, whatever is called.
use Rattle.std.proofs.Common.{◌≡◌, ℕ, zero, suc, ℤ, Bool, true, false, List, [], ◌∷◌, ◌++◌, Option, Some, None}
use Rattle.std.proofs.Common.{length, map, slice_get, slice_set, refl, sym, ap, ◌∙◌}
use Rattle.std.specs.Prelude.{◌-◌, ◌+◌, filter, if◌then◌else◌, not}
use Rattle.std.specs.List.{AllByRecursion as Each}
use Rattle.std.proofs.lemmas.Option.{none-some, same_Some}
use Rattle.model_value.specs.Input.{Input}
use Rattle.model_value.specs.Value.{Items, Outcome, Value, no_values}
use Rattle.model_loop.specs.Futures.{future_outcome, is_pending, new_many, new_plain, next_future}
use Rattle.model_loop.specs.Loop.{Loop, in_parts}
use Rattle.model_loop.specs.Parts.{Plain, Many, Parts}
use Rattle.model_loop.specs.Tasks.{cancelling}
use Rattle.model_says.specs.Operations.{out_of_range}
use Rattle.model_machine.specs.Extra.{ExtraAnswer, ExtraCall, ExtraSaid, ExtraStep, Answers, MakesMany, MakesPlain, Raises, Uncancels, made_by_all}
use Rattle.model_machine.specs.Outcomes.{input_of}
use Rattle.model_machine.specs.State.{State}
use Rattle.model_reach.specs.Part.{can_draw, key_at, passes, refuses}
use Rattle.model_gather.specs.Gathered.{Argument, Answered, Drawn, Expired, Expiring, Finished, Gathered, Gathering, Gathers, Rings, Shields, Tells, Timed}
use Rattle.model_gather.specs.Gathered.{TimedState, TimedWait, WaitMode, Waiting, Waits, WaitsFor, at_once, distinct, distinct_arguments, drawn_after, drawn_at}
use Rattle.model_gather.specs.Gathered.{draws, futures_of, gather_part, registered_from, settled_as}
use Rattle.model_gather.specs.Gather.{count, count_all, gather, gather_all, gather_told, was_asked}
use Rattle.model_gather.specs.Serving.{OfGather, OfShield, OfWait, OfWaitFor, Request, Wanted, acted, asked, gather_means, requested, rung, serve, served, told}
use Rattle.model_gather.specs.Serving.{wanted_of, woken}
use Rattle.model_gather.specs.Shield.{shield, shield_open, shield_told}
use Rattle.model_gather.specs.Wait.{bad_mode, empty_set, handle_if_some, one_if_some, revoked, rings_after, tag_if_some, wait, wait_all, wait_rings, wait_told}
use Rattle.model_gather.specs.WaitFor.{bad_timeout, may_time, wait_for, wait_for_all, wait_for_rings, wait_for_woken}
use Rattle.law_waiters.proofs.Shapes.{ShapesStay, made_shape, shape_of, steps_stay}

-- ---- lists
pub each_append : {A : Type 0} (P : A → Type 0) (xs ys : List A) → Each P xs → Each P ys → Each P (xs ++ ys)
each_append P [] ys a b = b
each_append P (x ∷ xs) ys a b = (a.0, each_append P xs ys a.1 b)

pub each_on : {A : Type 0} (P Q : A → Type 0) → ((x : A) → P x → Q x) → (xs : List A) → Each P xs → Each Q xs
each_on P Q on [] a = tt
each_on P Q on (x ∷ xs) a = (on x a.0, each_on P Q on xs a.1)

pub each_at : {A : Type 0} (P : A → Type 0) (xs : List A) (place : ℕ) (x : A) → slice_get xs place ≡ Some x → Each P xs → P x
each_at P [] place x e a = absurd (none-some x e)
each_at P (y ∷ xs) zero x e a = rw (← same_Some y x e) a.0
each_at P (y ∷ xs) (suc place) x e a = each_at P xs place x e a.1

pub each_set : {A : Type 0} (P : A → Type 0) (xs : List A) (place : ℕ) (x : A) → P x → Each P xs → Each P (slice_set xs place x)
each_set P [] place x h a = tt
each_set P (y ∷ xs) zero x h a = (h, a.1)
each_set P (y ∷ xs) (suc place) x h a = (a.0, each_set P xs place x h a.1)

-- ---- what is kept
abbrev pub EntryFits : Parts → Drawn → Type 0
EntryFits p (Gathers it) = shape_of p it.outer ≡ Some (Many (distinct it.awaited) false)
EntryFits p (Waits it) = shape_of p it.on ≡ Some Plain
EntryFits p (Shields on) = shape_of p on ≡ Some Plain
EntryFits p _ = Unit {0}

abbrev pub FitsAll : Gathered → Parts → Type 0
FitsAll kept p = Each (EntryFits p) kept.drawn

entry_stays : (p q : Parts) → ShapesStay p q → (it : Drawn) → EntryFits p it → EntryFits q it
entry_stays p q stay (Gathers it) h = stay it.outer _ h
entry_stays p q stay (Waits it) h = stay it.on _ h
entry_stays p q stay (Shields on) h = stay on _ h
entry_stays p q stay _ h = tt

pub fits_stay : (kept : Gathered) (p q : Parts) → ShapesStay p q → FitsAll kept p → FitsAll kept q
fits_stay kept p q stay fits = each_on (EntryFits p) (EntryFits q) (entry_stays p q stay) kept.drawn fits

-- ---- a call
-- a shield by what it shields
abbrev shielded : Option Outcome → (inner : ℕ) → Parts → Gathered → ExtraSaid Gathered
shielded o inner p kept =
    elim o [ Some outcome ↦ at_once (passes (input_of outcome)) kept | None ↦ draws 2 (shield_open inner p kept) kept ]

abbrev pub CallFits : Loop → ExtraCall Gathered → Type 0
CallFits l call = FitsAll call.state (made_by_all call.steps l).parts

module _ (kept : Gathered) (l : Loop) (fits : FitsAll kept l.parts) where
  still : (steps : List ExtraStep) → FitsAll kept (made_by_all steps l).parts
  still steps = fits_stay kept l.parts (made_by_all steps l).parts (steps_stay steps l) fits

  more_fit : (more : List Drawn) (steps : List ExtraStep) → Each (EntryFits (made_by_all steps l).parts) more
      → FitsAll (drawn_after more kept) (made_by_all steps l).parts
  more_fit more steps all = each_append (EntryFits (made_by_all steps l).parts) kept.drawn more (still steps) all

  one_fits : (place : ℕ) (it : Drawn) (steps : List ExtraStep) → EntryFits (made_by_all steps l).parts it
      → FitsAll (drawn_at place it kept) (made_by_all steps l).parts
  one_fits place it steps h = each_set (EntryFits (made_by_all steps l).parts) kept.drawn place it h (still steps)

  tells_fit : (p : Parts) (place : ℕ) (ids : List ℕ) → Each (EntryFits p) (map (Tells place) ids)
  tells_fit p place [] = tt
  tells_fit p place (id ∷ ids) = (tt, tells_fit p place ids)

  handle_fits : (p : Parts) (place : ℕ) (delay : Option ℤ) → Each (EntryFits p) (handle_if_some delay place)
  handle_fits p place None = tt
  handle_fits p place (Some delay) = (tt, tt)

  -- ---- as it is asked
  drawn_fits : (more : ℕ) (said : ExtraSaid Gathered) → CallFits l said.call → CallFits l (draws more said kept).call
  drawn_fits more said h = at (can_draw gather_part (length kept.drawn) more)
    where
      at : (b : Bool) → CallFits l (if b then said else refuses out_of_range kept).call
      at true = h
      at false = fits

  once_fits : (answer : ExtraAnswer) → CallFits l (at_once answer kept).call
  once_fits answer =
      drawn_fits 1 (record { call = record { state = drawn_after (Answered ∷ []) kept; steps = [] }; answer = answer })
      (more_fit (Answered ∷ []) [] (tt, tt))

  many_made : (members : List ℕ) (rest : List ExtraStep)
      → shape_of (made_by_all (MakesMany members ∷ rest) l).parts (next_future l.parts) ≡ Some (Many members false)
  many_made members rest =
      steps_stay rest (in_parts (new_many members) l) (next_future l.parts) (Many members false) (made_shape (Many members false) l.parts)

  plain_made : (rest : List ExtraStep) → shape_of (made_by_all (MakesPlain ∷ rest) l).parts (next_future l.parts) ≡ Some Plain
  plain_made rest = steps_stay rest (in_parts new_plain l) (next_future l.parts) Plain (made_shape Plain l.parts)

  -- counting changes alone how many are left
  counted_same : (p : Parts) (asked_ : Bool) (members : List ℕ) (it : Gathering)
      → ((count_all p asked_ members it).now.outer ≡ it.outer) × ((count_all p asked_ members it).now.awaited ≡ it.awaited)
  counted_same p asked_ [] it = (refl, refl)
  counted_same p asked_ (member ∷ members) it = counted_same p asked_ members (record it { left = it.left - 1 })

  gather_fits : (as_items : Bool) (awaited : List ℕ) → CallFits l (gather as_items awaited l.parts kept).call
  gather_fits as_items [] = once_fits (Answers (Items no_values))
  gather_fits as_items (id ∷ ids) =
      let members = distinct (id ∷ ids) in
      let said = gather_all as_items (id ∷ ids) members l.parts kept in
      let open_ = filter (is_pending l.parts) members in
      let whole : Gathering = record { outer = next_future l.parts; awaited = id ∷ ids; as_items = as_items; left = length members } in
      let counted = count_all l.parts false (filter (λ other. not (is_pending l.parts other)) members) whole in
      let same = counted_same l.parts false (filter (λ other. not (is_pending l.parts other)) members) whole in
      let rest = registered_from gather_part (suc (length kept.drawn)) open_ ++ settled_as counted.outcome (next_future l.parts) in
      let p = (made_by_all (MakesMany members ∷ rest) l).parts in
      drawn_fits (1 + length open_) said
      (more_fit (Gathers counted.now ∷ map (Tells (length kept.drawn)) open_) (MakesMany members ∷ rest) (
        ap (shape_of p) same.0 ∙ many_made members rest ∙ ap (λ those. Some (Many (distinct those) false)) (sym same.1),
        tells_fit p (length kept.drawn) open_,
      ))

  wait_all_fits : (mode : WaitMode) (delay : Option ℤ) (arguments : List Argument) → CallFits l (wait_all mode delay arguments l.parts kept).call
  wait_all_fits mode delay arguments =
      let place = length kept.drawn in
      let members = futures_of arguments in
      let done = length (filter (λ id. not (is_pending l.parts id)) members) in
      let rest = registered_from gather_part (suc place) members ++ rings_after delay (key_at gather_part (suc place + length members)) l.parts in
      let p = (made_by_all (MakesPlain ∷ rest) l).parts in
      let it : Waiting = record {
        on = next_future l.parts;
        arguments = arguments;
        mode = mode;
        left = length members;
        timer = tag_if_some delay (l.parts.next_tag + done);
      } in
      more_fit (Waits it ∷ map (Tells place) members ++ handle_if_some delay place) (MakesPlain ∷ rest) (
        plain_made rest,
        each_append (EntryFits p) (map (Tells place) members) (handle_if_some delay place) (tells_fit p place members) (handle_fits p place delay),
      )

  wait_fits : (over : Option WaitMode) (delay : Option ℤ) (arguments : List Argument) → CallFits l (wait over delay arguments l.parts kept).call
  wait_fits over delay [] = once_fits (Raises empty_set)
  wait_fits None delay (it ∷ others) = once_fits (Raises bad_mode)
  wait_fits (Some mode) delay (it ∷ others) =
      let arguments = distinct_arguments (it ∷ others) in
      drawn_fits (1 + length arguments + one_if_some delay) (wait_all mode delay arguments l.parts kept) (wait_all_fits mode delay arguments)

  shield_fits : (inner : ℕ) → CallFits l (shield inner l.parts kept).call
  shield_fits inner = at (future_outcome l.parts inner)
    where
      rest : List ExtraStep
      rest = registered_from gather_part (suc (length kept.drawn)) (inner ∷ [])

      at : (o : Option Outcome) → CallFits l (shielded o inner l.parts kept).call
      at (Some outcome) = once_fits (passes (input_of outcome))
      at None =
          drawn_fits 2 (shield_open inner l.parts kept)
          (more_fit (Shields (next_future l.parts) ∷ Tells (length kept.drawn) inner ∷ []) (MakesPlain ∷ rest) (plain_made rest, (tt, tt)))

  wait_for_fits : (task id : ℕ) (delay : Option ℤ) → CallFits l (wait_for task id delay l.parts kept).call
  wait_for_fits task id delay = at (may_time delay)
    where
      place : ℕ
      place = length kept.drawn

      steps : List ExtraStep
      steps = rings_after delay (key_at gather_part (suc place)) l.parts

      it : TimedWait
      it = record { task = task; stored = cancelling l.parts task; timer = tag_if_some delay l.parts.next_tag; state = Timed }

      at : (b : Bool) → CallFits l (if b
          then draws (1 + one_if_some delay) (wait_for_all task id delay l.parts kept) kept
          else at_once (Raises bad_timeout) kept).call
      at true =
          drawn_fits (1 + one_if_some delay) (wait_for_all task id delay l.parts kept)
          (more_fit (WaitsFor it ∷ handle_if_some delay place) steps (tt, handle_fits (made_by_all steps l).parts place delay))
      at false = once_fits (Raises bad_timeout)

  serve_fits : (it : Request) (task : ℕ) → CallFits l (serve it task l.parts kept).call
  serve_fits (OfGather as_items awaited) task = gather_fits as_items awaited
  serve_fits (OfWait over delay arguments) task = wait_fits over delay arguments
  serve_fits (OfShield inner) task = shield_fits inner
  serve_fits (OfWaitFor id delay) task = wait_for_fits task id delay

  -- ---- as its handles run
  told_fits : (place future : ℕ) (o : Option Drawn) → slice_get kept.drawn place ≡ o → CallFits l (told o place future l.parts kept)
  told_fits place future (Some (Gathers it)) e =
      let steps = (gather_told place future it l.parts kept).steps in
      one_fits place (Gathers (count l.parts (was_asked l.parts it.outer) future it).now) steps
      (steps_stay steps l it.outer (Many (distinct it.awaited) false) (each_at (EntryFits l.parts) kept.drawn place (Gathers it) e fits))
  told_fits place future (Some (Waits it)) e =
      let steps = (wait_told place future it l.parts kept).steps in
      one_fits place (Waits (record it { left = it.left - 1 })) steps
      (steps_stay steps l it.on Plain (each_at (EntryFits l.parts) kept.drawn place (Waits it) e fits))
  told_fits place future (Some (Shields id)) e = still (shield_told id future l.parts kept).steps
  told_fits place future _ e = fits

  rung_fits : (place : ℕ) (o : Option Drawn) → CallFits l (rung o place l.parts kept)
  rung_fits place (Some (Waits it)) = still (wait_rings it kept).steps
  rung_fits place (Some (WaitsFor it)) =
      one_fits place (WaitsFor (record it { state = Expiring; timer = None })) (wait_for_rings place it l.parts kept).steps tt
  rung_fits place _ = fits

  pub acted_fits : (o : Option Drawn) → CallFits l (acted o l.parts kept)
  acted_fits (Some (Tells place future)) = told_fits place future (slice_get kept.drawn place) refl
  acted_fits (Some (Rings place)) = rung_fits place (slice_get kept.drawn place)
  acted_fits _ = fits

  -- ---- as its task goes on
  timed_fits : (place : ℕ) (input : Input) (it : TimedWait) (state : TimedState)
      → CallFits l (wait_for_woken place input (record it { state = state }) l.parts kept).call
  timed_fits place input it Expiring =
      one_fits place (WaitsFor (record it { state = Expired })) (revoked it.timer ++ Uncancels (key_at gather_part place) it.task ∷ []) tt
  timed_fits place input it Timed = one_fits place (WaitsFor (record it { state = Finished; timer = None })) (revoked it.timer) tt
  timed_fits place input it Expired = one_fits place (WaitsFor (record it { state = Finished; timer = None })) (revoked it.timer) tt
  timed_fits place input it Finished = one_fits place (WaitsFor (record it { state = Finished; timer = None })) (revoked it.timer) tt

  pub woken_fits : (o : Option Drawn) (place : ℕ) (input : Input) → CallFits l (woken o place input l.parts kept).call
  woken_fits (Some (Waits it)) place input = still (revoked it.timer)
  woken_fits (Some (WaitsFor it)) place input = timed_fits place input it it.state
  woken_fits _ place input = fits

-- ---- a call of `gather_means`
pub asked_fits : (task : ℕ) (code : ℤ) (arguments : List Value) (s : State Gathered) → FitsAll s.extra s.loop.parts
    → CallFits s.loop (gather_means.ask task code arguments s).call
asked_fits task code arguments s fits = at (wanted_of code)
  where
    of : (it : Option Request) → CallFits s.loop (served it task s.loop.parts s.extra).call
    of None = fits
    of (Some it) = serve_fits s.extra s.loop fits it task

    at : (wanted : Option Wanted) → CallFits s.loop (asked wanted task code arguments s).call
    at None = fits
    at (Some wanted) = of (requested s wanted arguments)
