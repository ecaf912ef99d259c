-- So it is of all gathers and waits in every state of every run, beside parts that keep to their own keys.
use Rattle.std.proofs.Common.{◌≡◌, ◌<◌, inl, inr, ℕ, ℤ, zero, suc, Bool, true, false, List, [], ◌∷◌, Option, Some, None, is_none, nat_lt, cond, length}
use Rattle.std.proofs.Common.{slice_get, refl, sym, ap, subst, ◌∙◌, arith}
use Rattle.std.specs.List.{AllByRecursion as Each}
use Rattle.std.proofs.lemmas.Bool.{false≢true, ltb-true}
use Rattle.std.proofs.lemmas.Option.{none-some}
use Rattle.model_value.specs.declared.action.Action.TheVariants as action
use Rattle.model_value.specs.Input.{Input}
use Rattle.model_value.specs.Value.{Outcome, Value}
use Rattle.model_tree.specs.Syntax.{Program}
use Rattle.model_wire.specs.Journal.{Entry}
use Rattle.model_loop.specs.Futures.{is_pending, is_pending_at, made_before, next_future, outcome_at}
use Rattle.model_loop.specs.Parts.{Future, Handle, Parts}
use Rattle.model_machine.specs.Extra.{Extra, ExtraCall, ExtraSaid, made_by_all, unknown_code}
use Rattle.model_machine.specs.State.{State, start}
use Rattle.model_reach.specs.Part.{place_of, refuses, stays, was_drawn}
use Rattle.model_reach.specs.Reach.{OfDgram, OfExec, OfGather, OfSync, Part, Parted, part_as, part_of_code, part_of_key, reach, seen_by}
use Rattle.model_gather.specs.Gathered.{Drawn, Gathered, Gathers, Waits, gather_part, futures_of}
use Rattle.model_gather.specs.Serving.{gather_means}
use Rattle.law_kept.proofs.Turning.{run_on}
use Rattle.law_kept.specs.Runs.{IsRunOf}
use Rattle.law_kept.specs.Walks.{Beside, Walks, runs}
use Rattle.law_waiters.proofs.Keeping.{key_here}
use Rattle.law_waiters.proofs.Running.{run_follows}
use Rattle.law_waiters.specs.Reached.{entry_under, first_parted}
use Rattle.law_waiters.specs.Timed.{KeepsToKeys}
use Rattle.law_members.specs.Members.{CountsMembers, IsDone}
use Rattle.law_members.proofs.Calling.{acted_keeps, asked_keeps, woken_keeps}
use Rattle.law_members.proofs.Counted.{Counts, IsIn, goes_on, none_pending}
use Rattle.law_members.proofs.Drawing.{KeepsCounted, counts_in}
use Rattle.law_members.proofs.Onward.{beside_onward, row_onward, taken_onward}

module _ {B C D : Type 0} (sync : Extra B) (exec : Extra C) (dgram : Extra D) (of_sync : KeepsToKeys OfSync sync) (of_exec : KeepsToKeys OfExec exec)
    (of_dgram : KeepsToKeys OfDgram dgram) where
  abbrev All : Type 0
  All = Parted Gathered B C D

  abbrev added : Extra All
  added = reach gather_means sync exec dgram

  abbrev pub Holds : State All → Type 0
  Holds s = KeepsCounted s.extra.gather s.loop.parts

  sync_apart : OfSync ≡ OfGather → ⊥
  sync_apart e = absurd (cc)

  exec_apart : OfExec ≡ OfGather → ⊥
  exec_apart e = absurd (cc)

  dgram_apart : OfDgram ≡ OfGather → ⊥
  dgram_apart e = absurd (cc)

  goes_beside : (s t : State All) → Beside s t → Holds s → Holds t
  goes_beside s t here c =
      subst (λ (kept : All). KeepsCounted kept.gather t.loop.parts) (sym here.kept) (goes_on c t.loop.parts (row_onward here.loop))

  -- ---- calls
  abbrev CallIs : State All → ExtraCall All → Type 0
  CallIs s call = KeepsCounted call.state.gather (made_by_all call.steps s.loop).parts

  abbrev ask_at : Option Part → (task : ℕ) (code : ℤ) → List Value → State All → ExtraSaid All
  ask_at o task code arguments s =
      elim o [
        | None ↦ refuses (unknown_code code) s.extra
        | Some part ↦ (part_as gather_means sync exec dgram part).ask task code arguments s
      ]

  asks_part : (o : Option Part) (task : ℕ) (code : ℤ) (arguments : List Value) (s : State All) → Holds s
      → CallIs s (ask_at o task code arguments s).call
  asks_part None task code arguments s c = c
  asks_part (Some OfGather) task code arguments s c = asked_keeps task code arguments (seen_by s.extra.gather s) c
  asks_part (Some OfSync) task code arguments s c =
      goes_on c _ (beside_onward OfSync sync_apart _ s.loop (of_sync.ask task code arguments (seen_by s.extra.sync s)).0)
  asks_part (Some OfExec) task code arguments s c =
      goes_on c _ (beside_onward OfExec exec_apart _ s.loop (of_exec.ask task code arguments (seen_by s.extra.exec s)).0)
  asks_part (Some OfDgram) task code arguments s c =
      goes_on c _ (beside_onward OfDgram dgram_apart _ s.loop (of_dgram.ask task code arguments (seen_by s.extra.dgram s)).0)

  wakes_part : (part : Part) (key : ℕ) (input : Input) (s : State All) → part_of_key key ≡ part → Holds s
      → CallIs s ((part_as gather_means sync exec dgram part).wake key input s).call
  wakes_part OfGather key input s e c =
      woken_keeps s.extra.gather s.loop c (place_of gather_part key) input (slice_get s.extra.gather.drawn (place_of gather_part key)) refl
  wakes_part OfSync key input s e c =
      goes_on c _ (beside_onward OfSync sync_apart _ s.loop (of_sync.wake key input (seen_by s.extra.sync s) e).0)
  wakes_part OfExec key input s e c =
      goes_on c _ (beside_onward OfExec exec_apart _ s.loop (of_exec.wake key input (seen_by s.extra.exec s) e).0)
  wakes_part OfDgram key input s e c =
      goes_on c _ (beside_onward OfDgram dgram_apart _ s.loop (of_dgram.wake key input (seen_by s.extra.dgram s) e).0)

  acts_part : (part : Part) (key : ℕ) (handle : Handle) (rest : List Handle) (s : State All) → part_of_key key ≡ part
      → s.loop.parts.pending ≡ handle ∷ rest → handle.dead ≡ false → handle.action ≡ action.Extra key → Holds s
      → CallIs (runs key rest s) ((part_as gather_means sync exec dgram part).act key (runs key rest s))
  acts_part OfGather key handle rest s e first live is c =
      acted_keeps s.extra.gather s.loop c handle rest (place_of gather_part key) first live (is ∙ ap action.Extra (key_here key e))
      (slice_get s.extra.gather.drawn (place_of gather_part key)) refl
  acts_part OfSync key handle rest s e first live is c =
      goes_on (goes_on c _ (taken_onward handle rest s.loop.parts first)) _
      (beside_onward OfSync sync_apart _ (runs key rest s).loop (of_sync.act key (seen_by s.extra.sync (runs key rest s)) e))
  acts_part OfExec key handle rest s e first live is c =
      goes_on (goes_on c _ (taken_onward handle rest s.loop.parts first)) _
      (beside_onward OfExec exec_apart _ (runs key rest s).loop (of_exec.act key (seen_by s.extra.exec (runs key rest s)) e))
  acts_part OfDgram key handle rest s e first live is c =
      goes_on (goes_on c _ (taken_onward handle rest s.loop.parts first)) _
      (beside_onward OfDgram dgram_apart _ (runs key rest s).loop (of_dgram.act key (seen_by s.extra.dgram (runs key rest s)) e))

  news_part : (o : Option Part) (code : ℤ) (bytes : List ℕ) (s : State All) → Holds s
      → CallIs s (elim o [ None ↦ stays s.extra | Some part ↦ (part_as gather_means sync exec dgram part).item code bytes s ])
  news_part None code bytes s c = c
  news_part (Some OfGather) code bytes s c = c
  news_part (Some OfSync) code bytes s c =
      goes_on c _ (beside_onward OfSync sync_apart _ s.loop (of_sync.item code bytes (seen_by s.extra.sync s)))
  news_part (Some OfExec) code bytes s c =
      goes_on c _ (beside_onward OfExec exec_apart _ s.loop (of_exec.item code bytes (seen_by s.extra.exec s)))
  news_part (Some OfDgram) code bytes s c =
      goes_on c _ (beside_onward OfDgram dgram_apart _ s.loop (of_dgram.item code bytes (seen_by s.extra.dgram s)))

  pub counted_walk : Walks added Holds (λ task answer s. Holds s) (λ task key s. Holds s)
  counted_walk = record {
    beside = goes_beside;
    asks = λ task code arguments s c. asks_part (part_of_code code) task code arguments s c;
    stood = λ task key s t at here none c. goes_beside s t here c;
    done = λ task on key outcome s is c. c;
    hears = λ task key code bytes s t here c. goes_beside s t here c;
    wakes = λ task key input s c. wakes_part (part_of_key key) key input s refl c;
    woken = λ task key s c. c;
    over = λ task answer s c. c;
    waits = λ task on key s t here c.
        subst (λ (kept : All). KeepsCounted kept.gather t.loop.parts) (sym here.kept) (goes_on c t.loop.parts (row_onward here.loop));
    acts = λ key handle rest s first live is c. acts_part (part_of_key key) key handle rest s refl first live is c;
    news = λ code bytes s c. news_part (part_of_code code) code bytes s c;
  }

  -- ---- a run begins
  pub begins_counted : (b : B) (c : C) (d : D) (most : ℕ) (program : Program) (answers : List Entry)
      → Holds (start most (first_parted b c d) program answers)
  begins_counted b c d most program answers = record {
    fresh = refl;
    small = λ k h. (refl, refl);
    back = λ j k m e. absurd (none-some (k, m) e);
    own = λ k it e. absurd (none-some it e);
    left = λ k it e. absurd (none-some it e);
    there = λ k it e m among before is. absurd (none-some it e);
  }

-- ---- so none is left only where all are done
module _ (kept : Gathered) (p : Parts) (c : KeepsCounted kept p) where
  pub outcome_there : (id : ℕ) → id < next_future p → is_pending p id ≡ false → IsDone p id
  outcome_there id low none = at p.futures id low none
    where
      by : (o : Option Outcome) → is_none o ≡ false → (outcome : Outcome) × (o ≡ Some outcome)
      by None e = absurd (false≢true (sym e))
      by (Some outcome) e = (outcome, refl)

      at : (fs : List Future) (id : ℕ) → id < length fs → is_pending_at (slice_get fs id) ≡ false
          → (outcome : Outcome) × (outcome_at (slice_get fs id) ≡ Some outcome)
      at [] id low none = absurd (omega (arith, low))
      at (future ∷ fs) zero low none = by future.outcome none
      at (future ∷ fs) (suc id) low none = at fs id (omega (arith, low)) none

  all_done : (k : ℕ) (it : Counts) → counts_in (slice_get kept.drawn k) ≡ Some it → it.left ≡ 0 → (ids : List ℕ)
      → ((m : ℕ) → IsIn m ids → IsIn m it.members) → Each (IsDone p) (made_before it.own ids)
  all_done k it e none [] among = tt
  all_done k it e none (id ∷ ids) among = at (nat_lt id it.own) refl (all_done k it e none ids (λ m h. among m (inr h)))
    where
      at : (b : Bool) → nat_lt id it.own ≡ b → Each (IsDone p) (made_before it.own ids)
          → Each (IsDone p) (cond b (id ∷ made_before it.own ids) (made_before it.own ids))
      at false is rest = rest
      at true is rest =
          let low = ltb-true id it.own is in
          let made = c.own k it e in (
            outcome_there id (omega (arith, low, made)) (none_pending c k it e none id (among id (inl refl)) low),
            rest,
          )

  pub found_under : (key : ℕ) (entry : Drawn) → entry_under kept key ≡ Some entry → slice_get kept.drawn (place_of gather_part key) ≡ Some entry
  found_under key entry e = at (was_drawn gather_part (length kept.drawn) key) e
    where
      at : (b : Bool) → cond b (slice_get kept.drawn (place_of gather_part key)) None ≡ Some entry
          → slice_get kept.drawn (place_of gather_part key) ≡ Some entry
      at true e = e
      at false e = absurd (none-some entry e)

  pub counts_members : CountsMembers kept p
  counts_members = record {
    gathers = λ key it e none.
        all_done (place_of gather_part key) (record { own = it.outer; members = it.awaited; left = it.left })
        (ap counts_in (found_under key (Gathers it) e)) none it.awaited (λ m h. h);
    waits = λ key it e none.
        all_done (place_of gather_part key) (record { own = it.on; members = futures_of it.arguments; left = it.left })
        (ap counts_in (found_under key (Waits it) e)) none (futures_of it.arguments) (λ m h. h);
  }

pub counts_beside : {B C D : Type 0} (sync : Extra B) (exec : Extra C) (dgram : Extra D) → KeepsToKeys OfSync sync → KeepsToKeys OfExec exec
    → KeepsToKeys OfDgram dgram → (b : B) (c : C) (d : D) (most limit : ℕ) (program : Program) (answers : List Entry) (turns : ℕ)
    → IsRunOf (λ s. CountsMembers s.extra.gather s.loop.parts) limit (reach gather_means sync exec dgram) turns
    (start most (first_parted b c d) program answers)
counts_beside sync exec dgram of_sync of_exec of_dgram b c d most limit program answers turns =
    let first = start most (first_parted b c d) program answers in
    run_follows (Holds sync exec dgram of_sync of_exec of_dgram) (λ s. CountsMembers s.extra.gather s.loop.parts)
    (λ s h. counts_members s.extra.gather s.loop.parts h) limit (reach gather_means sync exec dgram) turns first
    (run_on (counted_walk sync exec dgram of_sync of_exec of_dgram) limit turns first
    (begins_counted sync exec dgram of_sync of_exec of_dgram b c d most program answers))
