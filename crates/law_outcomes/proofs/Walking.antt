-- So it is of all futures of gathers, waits and shields in every state of every run, beside parts that keep to their keys and futures.
use Rattle.std.proofs.Common.{◌≡◌, ◌<◌, ◌≤◌, inl, inr, ℕ, ℤ, Bool, true, false, cond, not, List, [], ◌∷◌, Option, Some, None}
use Rattle.std.proofs.Common.{filter, slice_get, refl, sym, ap, subst, ◌∙◌, arith, le_refl}
use Rattle.std.specs.Prelude.{◌==◌}
use Rattle.std.specs.Option.{option_and_then, option_map, option_map_or}
use Rattle.std.specs.List.{AllByRecursion as Each, flat_map}
use Rattle.std.proofs.lemmas.Option.{none-some}
use Rattle.model_value.specs.Action.{Action}
use Rattle.model_value.specs.declared.action.Action.TheVariants as action
use Rattle.model_value.specs.Input.{Input}
use Rattle.model_value.specs.Value.{Fut, Task as TaskValue, Value}
use Rattle.model_loop.specs.Futures.{next_future}
use Rattle.model_loop.specs.Parts.{Handle, Task}
use Rattle.model_loop.specs.Tasks.{future_of}
use Rattle.model_machine.specs.Arguments.{as_awaited, as_delay, as_int, as_list}
use Rattle.model_machine.specs.Extra.{Cancels, Extra, ExtraCall, ExtraSaid, called, made_by_all, unknown_code}
use Rattle.model_machine.specs.State.{State}
use Rattle.model_reach.specs.Part.{place_of, refuses, stays}
use Rattle.model_reach.specs.Reach.{OfDgram, OfExec, OfGather, OfSync, Part, Parted, part_as, part_of_code, part_of_key, reach, seen_by}
use Rattle.model_gather.specs.Gathered as plain
use Rattle.model_gather.specs.Gathered.{Argument, Drawn, Gathered, Gathers, Shields, Waits, as_all_awaited, distinct_arguments, futures_of, gather_part, paired}
use Rattle.model_gather.specs.Serving.{Gather, OfGather as GathersAll, OfShield, OfWait, OfWaitFor, Request, Shield, Wait, WaitFor, Wanted, asked, both}
use Rattle.model_gather.specs.Serving.{gather_means}
use Rattle.model_gather.specs.Serving.{requested, served, wanted_of}
use Rattle.model_gather.specs.Wait.{mode_of}
use Rattle.law_apart.specs.Apart.{IsTheirs, Leaves, TaskApart}
use Rattle.law_gather.proofs.Lists.{flat_among}
use Rattle.law_heeded.proofs.Going.{ran_apart}
use Rattle.law_heeded.proofs.Gathered.{gather_keeps_to}
use Rattle.law_heeded.proofs.Owning.{steps_safe, test_among}
use Rattle.law_heeded.proofs.Sharing.{IsPartKept, act_part, ask_part, in_all, item_part, now_disjoint, others_leave, wake_part}
use Rattle.law_heeded.specs.Between.{AreDisjoint, own_of}
use Rattle.law_heeded.specs.Owned.{AreApart, KeepsToItsFutures, is_own}
use Rattle.law_heeded.specs.Walks.{Walks, runs}
use Rattle.law_runs.specs.Allowed.{IsAmong}
use Rattle.law_waiters.proofs.Fitting.{each_at}
use Rattle.law_waiters.proofs.Keeping.{key_here}
use Rattle.law_waiters.specs.Timed.{IsStepOf, KeepsToKeys}
use Rattle.law_members.proofs.Calling.{acted_keeps, asked_keeps, woken_keeps}
use Rattle.law_members.proofs.Counted.{IsIn, goes_on as counted_on}
use Rattle.law_members.proofs.Drawing.{KeepsCounted}
use Rattle.law_members.proofs.Onward.{Onward, beside_onward, row_onward, taken_onward}
use Rattle.law_outcomes.proofs.Acting.{acted_right}
use Rattle.law_outcomes.proofs.Asking.{AsksMade, CallRight, serve_right}
use Rattle.law_outcomes.proofs.Drawing.{KeepsRight}
use Rattle.law_outcomes.proofs.Right.{goes_right, own_in}
use Rattle.law_outcomes.proofs.Waking.{woken_right}

-- ---- futures of arguments
filtered_in : (f : Argument → Bool) (m : ℕ) (those : List Argument) → IsIn m (futures_of (filter f those)) → IsIn m (futures_of those)
filtered_in f m [] h = h
filtered_in f m (it ∷ others) h = at (f it) h (λ rest. filtered_in f m others rest)
  where
    at : (b : Bool) → IsIn m (futures_of (cond b (it ∷ filter f others) (filter f others)))
        → (IsIn m (futures_of (filter f others)) → IsIn m (futures_of others)) → IsIn m (futures_of (it ∷ others))
    at true (inl e) next = inl e
    at true (inr rest) next = inr (next rest)
    at false rest next = inr (next rest)

distinct_among : (m : ℕ) (those : List Argument) → IsIn m (futures_of (distinct_arguments those)) → IsIn m (futures_of those)
distinct_among m [] h = h
distinct_among m (it ∷ others) (inl e) = inl e
distinct_among m (it ∷ others) (inr h) =
    inr (distinct_among m others (filtered_in (λ other. not (other.future == it.future)) m (distinct_arguments others) h))

paired_among : (m : ℕ) (xs : List Value) (ids : List ℕ) → IsIn m (futures_of (paired xs ids)) → IsIn m ids
paired_among m [] [] h = h
paired_among m [] (id ∷ ids) h = absurd h
paired_among m (x ∷ xs) [] h = absurd h
paired_among m (x ∷ xs) (id ∷ ids) (inl e) = inl e
paired_among m (x ∷ xs) (id ∷ ids) (inr h) = inr (paired_among m xs ids h)

-- ---- what a request names was made, or is the next
module _ (s : State Gathered) (scripts : (place id : ℕ) → slice_get s.futures place ≡ Some id → id < next_future s.loop.parts)
    (tasks : (id : ℕ) (it : Task) → slice_get s.loop.parts.tasks id ≡ Some it → it.future < next_future s.loop.parts) where
  abbrev next : ℕ
  next = next_future s.loop.parts

  abbrev IsMost : Option ℕ → Type 0
  IsMost None = Unit {0}
  IsMost (Some id) = id ≤ next_future s.loop.parts

  task_most : (id : ℕ) → future_of s.loop.parts id ≤ next
  task_most id = at (slice_get s.loop.parts.tasks id) refl
    where
      at : (o : Option Task) → slice_get s.loop.parts.tasks id ≡ o → option_map_or (λ (t : Task). t.future) o (next_future s.loop.parts) ≤ next
      at None e = omega arith
      at (Some it) e = let a = tasks id it e in omega (arith, a)

  one_most : (x : Value) → IsMost (as_awaited s x)
  one_most (Fut id) = at (slice_get s.futures id) refl
    where
      at : (o : Option ℕ) → slice_get s.futures id ≡ o → IsMost o
      at None e = tt
      at (Some on) e = let a = scripts id on e in omega (arith, a)
  one_most (TaskValue id) = task_most id
  one_most _ = tt

  abbrev AreMost : List ℕ → Type 0
  AreMost ids = (m : ℕ) → IsIn m ids → m ≤ next_future s.loop.parts

  abbrev AllMost : Option (List ℕ) → Type 0
  AllMost None = Unit {0}
  AllMost (Some ids) = AreMost ids

  all_most : (xs : List Value) → AllMost (as_all_awaited s xs)
  all_most [] = λ m h. absurd h
  all_most (x ∷ xs) = at (as_awaited s x) (as_all_awaited s xs) (one_most x) (all_most xs)
    where
      at : (o : Option ℕ) (ids : Option (List ℕ)) → IsMost o → AllMost ids
          → AllMost (elim o [ None ↦ None | Some id ↦ elim ids [ None ↦ None | Some others ↦ Some (id ∷ others) ] ])
      at None ids a b = tt
      at (Some id) None a b = tt
      at (Some id) (Some others) a b = both_most
        where
          both_most : (m : ℕ) → IsIn m (id ∷ others) → m ≤ next_future s.loop.parts
          both_most m (inl e) = omega (arith, a, e)
          both_most m (inr h) = b m h

  -- ---- by what is wanted
  abbrev IfMade : Option Request → Type 0
  IfMade None = Unit {0}
  IfMade (Some it) = AsksMade (next_future s.loop.parts) it

  waits_most : (mode delay : Value) (o : Option (List Value)) → IfMade (option_and_then (λ items. option_and_then (λ awaited.
      both (λ number time. OfWait (mode_of number) time (paired items awaited)) (as_int mode) (as_delay delay)) (as_all_awaited s items)) o)
  waits_most mode delay None = tt
  waits_most mode delay (Some items) = by (as_all_awaited s items) (all_most items)
    where
      by : (o : Option (List ℕ)) → AllMost o → IfMade (option_and_then (λ awaited.
          both (λ number time. OfWait (mode_of number) time (paired items awaited)) (as_int mode) (as_delay delay)) o)
      by None all = tt
      by (Some ids) all = of (as_int mode) (as_delay delay)
        where
          of : (number : Option ℤ) (time : Option (Option ℤ)) → IfMade (both (λ number time. OfWait (mode_of number) time (paired items ids)) number time)
          of None time = tt
          of (Some number) None = tt
          of (Some number) (Some time) = λ m h. all m (paired_among m items ids (distinct_among m (paired items ids) h))

  made_by_list : (wanted : Wanted) (xs : List Value) → IfMade (requested s wanted xs)
  made_by_list (Gather as_items) xs = by (as_all_awaited s xs) (all_most xs)
    where
      by : (o : Option (List ℕ)) → AllMost o → IfMade (option_map (GathersAll as_items) o)
      by None all = tt
      by (Some ids) all = all
  made_by_list Wait (mode ∷ delay ∷ xs ∷ []) = waits_most mode delay (as_list xs)
  made_by_list Wait [] = tt
  made_by_list Wait (mode ∷ []) = tt
  made_by_list Wait (mode ∷ delay ∷ []) = tt
  made_by_list Wait (mode ∷ delay ∷ xs ∷ more ∷ others) = tt
  made_by_list Shield (x ∷ []) = by (as_awaited s x) (one_most x)
    where
      by : (o : Option ℕ) → IsMost o → IfMade (option_map OfShield o)
      by None all = tt
      by (Some id) all = all
  made_by_list Shield [] = tt
  made_by_list Shield (x ∷ more ∷ others) = tt
  made_by_list WaitFor xs = timed xs
    where
      timed : (xs : List Value) → IfMade (requested s WaitFor xs)
      timed (x ∷ delay ∷ []) = by (as_awaited s x) (as_delay delay)
        where
          by : (o : Option ℕ) (time : Option (Option ℤ)) → IfMade (both OfWaitFor o time)
          by None time = tt
          by (Some id) None = tt
          by (Some id) (Some time) = tt
      timed [] = tt
      timed (x ∷ []) = tt
      timed (x ∷ delay ∷ more ∷ others) = tt

  -- ---- a call of `gather_means`
  pub asked_right : (r : KeepsRight s.extra s.loop.parts) → KeepsCounted s.extra s.loop.parts → (task : ℕ) (code : ℤ) (arguments : List Value)
      → CallRight (gather_means.ask task code arguments s).call s.loop
  asked_right r c task code arguments = at (wanted_of code)
    where
      of : (it : Option Request) → IfMade it → CallRight (served it task s.loop.parts s.extra).call s.loop
      of None made = r
      of (Some it) made = serve_right s.extra s.loop r c it task made

      at : (wanted : Option Wanted) → CallRight (asked wanted task code arguments s).call s.loop
      at None = r
      at (Some wanted) = of (requested s wanted arguments) (made_by_list wanted arguments)

-- ---- its own futures, as what is added keeps them
pub own_among : (kept : Gathered) (k on : ℕ) → own_in (slice_get kept.drawn k) ≡ Some on → IsAmong (flat_map plain.own_in kept.drawn) on
own_among kept k on = at (slice_get kept.drawn k) refl
  where
    at : (o : Option Drawn) → slice_get kept.drawn k ≡ o → own_in o ≡ Some on → IsAmong (flat_map plain.own_in kept.drawn) on
    at (Some (Gathers it)) e own = flat_among plain.own_in kept.drawn k (Gathers it) on e (0, own)
    at (Some (Waits it)) e own = flat_among plain.own_in kept.drawn k (Waits it) on e (0, own)
    at (Some (Shields id)) e own = flat_among plain.own_in kept.drawn k (Shields id) on e (0, own)
    at _ e own = absurd (none-some on own)

module _ {B C D : Type 0} (sync : Extra B) (exec : Extra C) (dgram : Extra D) (of_sync : KeepsToKeys OfSync sync) (of_exec : KeepsToKeys OfExec exec)
    (of_dgram : KeepsToKeys OfDgram dgram) (its_sync : KeepsToItsFutures sync) (its_exec : KeepsToItsFutures exec)
    (its_dgram : KeepsToItsFutures dgram) where
  abbrev All : Type 0
  All = Parted Gathered B C D

  abbrev added : Extra All
  added = reach gather_means sync exec dgram

  pub record Holds (s : State (Parted Gathered B C D)) : Type 0 where
    pub counted : KeepsCounted s.extra.gather s.loop.parts
    pub right : KeepsRight s.extra.gather s.loop.parts
    pub disjoint : AreDisjoint gather_means sync exec dgram s.extra

  sync_apart : OfSync ≡ OfGather → ⊥
  sync_apart e = absurd (cc)

  exec_apart : OfExec ≡ OfGather → ⊥
  exec_apart e = absurd (cc)

  dgram_apart : OfDgram ≡ OfGather → ⊥
  dgram_apart e = absurd (cc)

  is_gathers_own : (kept : All) (k on : ℕ) → own_in (slice_get kept.gather.drawn k) ≡ Some on → is_own added kept on ≡ true
  is_gathers_own kept k on e =
      test_among (added.keeps kept).own on (in_all gather_means sync exec dgram OfGather kept on (own_among kept.gather k on e))

  -- ---- all else
  goes_beside : (s t : State All) → t.extra ≡ s.extra → Onward s.loop.parts t.loop.parts
      → Leaves (is_own added s.extra) s.loop.parts t.loop.parts → Holds s → Holds t
  goes_beside s t kept onward leaves h = record {
    counted = subst (λ (it : All). KeepsCounted it.gather t.loop.parts) (sym kept) (counted_on h.counted t.loop.parts onward);
    right =
        subst (λ (it : All). KeepsRight it.gather t.loop.parts) (sym kept)
        (goes_right h.right t.loop.parts onward (λ k on e. leaves.stay on (is_gathers_own s.extra k on e)));
    disjoint = subst (AreDisjoint gather_means sync exec dgram) (sym kept) h.disjoint;
  }

  -- ---- calls
  abbrev CallIs : State All → ExtraCall All → Type 0
  CallIs s call = Holds (called call s)

  -- of a part that isn't this
  others_keep : (part : Part) → (part ≡ OfGather → ⊥) → (call : ExtraCall All) (s : State All) → call.state.gather ≡ s.extra.gather
      → Each (IsStepOf part) call.steps → IsPartKept gather_means sync exec dgram part call s → AreApart added s → Holds s → CallIs s call
  others_keep part apart call s same steps kept a h =
      let onward = beside_onward part apart call.steps s.loop steps in
      let leaves = others_leave gather_means sync exec dgram part call s kept a h.disjoint OfGather (λ e. apart (sym e)) in
      record {
        counted = subst (λ it. KeepsCounted it (made_by_all call.steps s.loop).parts) (sym same)
            (counted_on h.counted (made_by_all call.steps s.loop).parts onward);
        right = subst (λ it. KeepsRight it (made_by_all call.steps s.loop).parts) (sym same)
            (goes_right h.right (made_by_all call.steps s.loop).parts onward
            (λ k on e. leaves.stay on (test_among (own_of gather_means sync exec dgram OfGather s.extra) on (own_among s.extra.gather k on e))));
        disjoint = now_disjoint gather_means sync exec dgram part call s kept a h.disjoint;
      }

  its_ask : (part : Part) (task : ℕ) (code : ℤ) (arguments : List Value) (s : State All)
      → IsPartKept gather_means sync exec dgram part ((part_as gather_means sync exec dgram part).ask task code arguments s).call s
  its_ask = ask_part gather_means sync exec dgram gather_keeps_to its_sync its_exec its_dgram

  its_wake : (part : Part) (key : ℕ) (input : Input) (s : State All)
      → IsPartKept gather_means sync exec dgram part ((part_as gather_means sync exec dgram part).wake key input s).call s
  its_wake = wake_part gather_means sync exec dgram gather_keeps_to its_sync its_exec its_dgram

  its_act : (part : Part) (key : ℕ) (s : State All)
      → IsPartKept gather_means sync exec dgram part ((part_as gather_means sync exec dgram part).act key s) s
  its_act = act_part gather_means sync exec dgram gather_keeps_to its_sync its_exec its_dgram

  its_item : (part : Part) (code : ℤ) (bytes : List ℕ) (s : State All)
      → IsPartKept gather_means sync exec dgram part ((part_as gather_means sync exec dgram part).item code bytes s) s
  its_item = item_part gather_means sync exec dgram gather_keeps_to its_sync its_exec its_dgram

  abbrev ask_at : Option Part → (task : ℕ) (code : ℤ) → List Value → State All → ExtraSaid All
  ask_at o task code arguments s =
      elim o [
        | None ↦ refuses (unknown_code code) s.extra
        | Some part ↦ (part_as gather_means sync exec dgram part).ask task code arguments s
      ]

  -- scripts' futures and tasks' were made
  scripts_made : (s : State All) → AreApart added s → (place id : ℕ) → slice_get s.futures place ≡ Some id → id < next_future s.loop.parts
  scripts_made s a place id e = (each_at (IsTheirs (is_own added s.extra) (next_future s.loop.parts)) s.futures place id e a.apart.scripts).1

  tasks_made : (s : State All) → AreApart added s → (id : ℕ) (it : Task) → slice_get s.loop.parts.tasks id ≡ Some it
      → it.future < next_future s.loop.parts
  tasks_made s a id it e =
      (each_at (TaskApart (is_own added s.extra) (next_future s.loop.parts)) s.loop.parts.tasks id it e a.apart.loop.parts.tasks).1

  asks_part : (o : Option Part) (task : ℕ) (code : ℤ) (arguments : List Value) (s : State All) → AreApart added s → Holds s
      → CallIs s (ask_at o task code arguments s).call
  asks_part None task code arguments s a h = h
  asks_part (Some OfGather) task code arguments s a h = record {
    counted = asked_keeps task code arguments (seen_by s.extra.gather s) h.counted;
    right = asked_right (seen_by s.extra.gather s) (scripts_made s a) (tasks_made s a) h.right h.counted task code arguments;
    disjoint = now_disjoint gather_means sync exec dgram OfGather _ s (its_ask OfGather task code arguments s) a h.disjoint;
  }
  asks_part (Some OfSync) task code arguments s a h =
      others_keep OfSync sync_apart _ s refl (of_sync.ask task code arguments (seen_by s.extra.sync s)).0 (its_ask OfSync task code arguments s) a h
  asks_part (Some OfExec) task code arguments s a h =
      others_keep OfExec exec_apart _ s refl (of_exec.ask task code arguments (seen_by s.extra.exec s)).0 (its_ask OfExec task code arguments s) a h
  asks_part (Some OfDgram) task code arguments s a h =
      others_keep OfDgram dgram_apart _ s refl (of_dgram.ask task code arguments (seen_by s.extra.dgram s)).0 (its_ask OfDgram task code arguments s) a h

  wakes_part : (part : Part) (key : ℕ) (input : Input) (s : State All) → part_of_key key ≡ part → AreApart added s → Holds s
      → CallIs s ((part_as gather_means sync exec dgram part).wake key input s).call
  wakes_part OfGather key input s e a h = record {
    counted =
        woken_keeps s.extra.gather s.loop h.counted (place_of gather_part key) input (slice_get s.extra.gather.drawn (place_of gather_part key)) refl;
    right =
        woken_right s.extra.gather s.loop h.right (place_of gather_part key) input (slice_get s.extra.gather.drawn (place_of gather_part key)) refl;
    disjoint = now_disjoint gather_means sync exec dgram OfGather _ s (its_wake OfGather key input s) a h.disjoint;
  }
  wakes_part OfSync key input s e a h =
      others_keep OfSync sync_apart _ s refl (of_sync.wake key input (seen_by s.extra.sync s) e).0 (its_wake OfSync key input s) a h
  wakes_part OfExec key input s e a h =
      others_keep OfExec exec_apart _ s refl (of_exec.wake key input (seen_by s.extra.exec s) e).0 (its_wake OfExec key input s) a h
  wakes_part OfDgram key input s e a h =
      others_keep OfDgram dgram_apart _ s refl (of_dgram.wake key input (seen_by s.extra.dgram s) e).0 (its_wake OfDgram key input s) a h

  -- a handle that is first is taken out
  module _ (by : Action) (handle : Handle) (rest : List Handle) (s : State All) (first : s.loop.parts.pending ≡ handle ∷ rest)
      (a : AreApart added s) (h : Holds s) where
    gone : AreApart added (runs by rest s)
    gone = ran_apart added by handle rest s first a

    left : Holds (runs by rest s)
    left =
        goes_beside s (runs by rest s) refl (taken_onward handle rest s.loop.parts first)
        (record { more = le_refl _; stay = λ future mine. inl refl }) h

  acts_part : (part : Part) (key : ℕ) (handle : Handle) (rest : List Handle) (s : State All) → part_of_key key ≡ part
      → s.loop.parts.pending ≡ handle ∷ rest → handle.dead ≡ false → handle.action ≡ action.Extra key → AreApart added s → Holds s
      → CallIs (runs (action.Extra key) rest s) ((part_as gather_means sync exec dgram part).act key (runs (action.Extra key) rest s))
  acts_part OfGather key handle rest s e first live is a h =
      let t = runs (action.Extra key) rest s in
      let b = gone (action.Extra key) handle rest s first a h in
      let place = place_of gather_part key in
      let runs_so = is ∙ ap action.Extra (key_here key e) in
      record {
        counted = acted_keeps s.extra.gather s.loop h.counted handle rest place first live runs_so (slice_get s.extra.gather.drawn place) refl;
        right = acted_right s.extra.gather s.loop h.right h.counted handle rest place first live runs_so
            (λ by future k on own.
            (steps_safe (is_own added s.extra) (next_future t.loop.parts) b.below (Cancels by future ∷ []) t.loop (tt, tt) b.apart.loop).leaves.stay on
            (is_gathers_own s.extra k on own))
            (slice_get s.extra.gather.drawn place) refl;
        disjoint = now_disjoint gather_means sync exec dgram OfGather _ t (its_act OfGather key t) b (left (action.Extra key) handle rest s first a h).disjoint;
      }
  acts_part OfSync key handle rest s e first live is a h =
      let t = runs (action.Extra key) rest s in
      others_keep OfSync sync_apart _ t refl (of_sync.act key (seen_by s.extra.sync t) e) (its_act OfSync key t)
      (gone (action.Extra key) handle rest s first a h) (left (action.Extra key) handle rest s first a h)
  acts_part OfExec key handle rest s e first live is a h =
      let t = runs (action.Extra key) rest s in
      others_keep OfExec exec_apart _ t refl (of_exec.act key (seen_by s.extra.exec t) e) (its_act OfExec key t)
      (gone (action.Extra key) handle rest s first a h) (left (action.Extra key) handle rest s first a h)
  acts_part OfDgram key handle rest s e first live is a h =
      let t = runs (action.Extra key) rest s in
      others_keep OfDgram dgram_apart _ t refl (of_dgram.act key (seen_by s.extra.dgram t) e) (its_act OfDgram key t)
      (gone (action.Extra key) handle rest s first a h) (left (action.Extra key) handle rest s first a h)

  abbrev item_at : Option Part → (code : ℤ) → List ℕ → State All → ExtraCall All
  item_at o code bytes s =
      elim o [ None ↦ stays s.extra | Some part ↦ (part_as gather_means sync exec dgram part).item code bytes s ]

  news_part : (o : Option Part) (code : ℤ) (bytes : List ℕ) (s : State All) → AreApart added s → Holds s → CallIs s (item_at o code bytes s)
  news_part None code bytes s a h = h
  news_part (Some OfGather) code bytes s a h = h
  news_part (Some OfSync) code bytes s a h =
      others_keep OfSync sync_apart _ s refl (of_sync.item code bytes (seen_by s.extra.sync s)) (its_item OfSync code bytes s) a h
  news_part (Some OfExec) code bytes s a h =
      others_keep OfExec exec_apart _ s refl (of_exec.item code bytes (seen_by s.extra.exec s)) (its_item OfExec code bytes s) a h
  news_part (Some OfDgram) code bytes s a h =
      others_keep OfDgram dgram_apart _ s refl (of_dgram.item code bytes (seen_by s.extra.dgram s)) (its_item OfDgram code bytes s) a h

  pub outcomes_walk : (limit : ℕ) → Walks limit (reach gather_means sync exec dgram) Holds (λ task answer s. Holds s) (λ task key input s. Holds s)
  outcomes_walk limit = record {
    beside = λ s t b h. goes_beside s t b.all.kept (row_onward b.all.loop) b.leaves h;
    asks = λ task code arguments s asked a h. asks_part (part_of_code code) task code arguments s a h;
    stood = λ task key input s t stood resumed b began none alone a h. goes_beside s t b.all.kept (row_onward b.all.loop) b.leaves h;
    done = λ task on key outcome s is h. h;
    hears = λ task key code bytes answer left s fit h. record { counted = h.counted; right = h.right; disjoint = h.disjoint };
    wakes = λ task key input s a h. wakes_part (part_of_key key) key input s refl a h;
    over = λ task answer s is h. h;
    waits = λ task on key s t stood is a h. goes_beside s t stood.all.kept (row_onward stood.all.loop) stood.leaves h;
    acts = λ key handle rest s first live is a h. acts_part (part_of_key key) key handle rest s refl first live is a h;
    news = λ code bytes handle rest s first live is a h.
        news_part (part_of_code code) code bytes (runs (action.ExtraItem code bytes) rest s)
        (gone (action.ExtraItem code bytes) handle rest s first a h) (left (action.ExtraItem code bytes) handle rest s first a h);
  }
