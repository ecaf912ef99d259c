-- So it is of all wait_fors in every state of every run, beside parts that keep to their own keys.
use Rattle.std.proofs.Common.{◌≡◌, ◌<◌, ◌==◌, ◌⊎◌, inl, inr, ℕ, ℤ, zero, suc, Bool, true, false, List, [], ◌∷◌, Option, Some, None, if◌then◌else◌, length}
use Rattle.std.proofs.Common.{slice_get, refl, sym, ap, subst, ◌∙◌, arith}
use Rattle.std.specs.Prelude.{◌%◌}
use Rattle.std.specs.List.{AllByRecursion as Each, count_by}
use Rattle.std.proofs.lemmas.Bool.{eq-eqb, eqb-true, ne_eqb}
use Rattle.std.proofs.lemmas.Option.{none-some}
use Rattle.model_value.specs.declared.action.Action.TheVariants as action
use Rattle.model_value.specs.Input.{Input}
use Rattle.model_value.specs.Value.{Value}
use Rattle.model_tree.specs.Syntax.{Program}
use Rattle.model_wire.specs.Journal.{Entry}
use Rattle.model_loop.specs.Balance.{asks, takes}
use Rattle.model_loop.specs.Loop.{Loop}
use Rattle.model_loop.specs.Parts.{Handle}
use Rattle.model_loop.specs.Totals.{callbacks_of}
use Rattle.model_machine.specs.Extra as extra
use Rattle.model_machine.specs.Extra.{Answers, Raises, CallsLater, CallsSoon, Cancels, Extra, ExtraAnswer, ExtraCall}
use Rattle.model_machine.specs.Extra.{ExtraSaid, ExtraStep, MakesMany, MakesPlain}
use Rattle.model_machine.specs.Extra.{Registers, Releases, Revokes, Settles, Uncancels, made_by_all, unknown_code}
use Rattle.model_machine.specs.Sound.{StandsUnder}
use Rattle.model_machine.specs.State.{Asked, Generator, Serving, State, start}
use Rattle.model_reach.specs.Part.{place_of, refuses, stays}
use Rattle.model_reach.specs.Reach.{OfDgram, OfExec, OfGather, OfSync, Part, Parted, part_as, part_of_code, part_of_key, reach, seen_by}
use Rattle.model_gather.specs.Gathered.{Drawn, Gathered, TimedWait, WaitsFor, gather_part}
use Rattle.model_gather.specs.Serving.{gather_means}
use Rattle.law_changes.specs.Changes.{LeavesPending}
use Rattle.law_kept.specs.Walks.{Beside, StoodAt, Walks, runs}
use Rattle.law_waiters.specs.Reached.{first_parted}
use Rattle.law_waiters.specs.Timed.{AsksOnce, IsStepOf, KeepsToKeys, WaitsAsPart, asked_of, is_by_key, is_key, took_of}
use Rattle.law_waiters.proofs.Books.{BooksNot, asks_of, row_same, takes_of}
use Rattle.law_waiters.proofs.Drawing.{IsFreeFor, IsReady, KeepsRight, timed_at, timed_in}
use Rattle.law_waiters.proofs.Fewer.{StepFor, change_fewer, row_fewer}
use Rattle.law_waiters.proofs.Right.{asked_in, goes_right, is_waiting, still_right, the_key, took_in}
use Rattle.law_waiters.proofs.Timing.{acted_right, asked_right, woken_right}

-- ---- keys of this part
gathers_key : (k : ℕ) → part_of_key (the_key k) ≡ OfGather
gathers_key k =
    let z : the_key k % 4 ≡ 0 = omega arith in
    ap (λ b. if b then OfGather else (if the_key k % 4 == 1 then OfSync else (if the_key k % 4 == 2 then OfExec else OfDgram))) (eq-eqb (the_key k % 4) 0 z)

only_first : (b c d : Bool) → (if b then OfGather else (if c then OfSync else (if d then OfExec else OfDgram))) ≡ OfGather → b ≡ true
only_first true c d e = refl
only_first false true d e = absurd (cc)
only_first false false true e = absurd (cc)
only_first false false false e = absurd (cc)

pub key_here : (key : ℕ) → part_of_key key ≡ OfGather → key ≡ the_key (place_of gather_part key)
key_here key e =
    let z : key % 4 ≡ 0 = eqb-true (key % 4) 0 (only_first (key % 4 == 0) (key % 4 == 1) (key % 4 == 2) e) in
    omega (arith, z)

module _ (part : Part) (other : part ≡ OfGather → ⊥) where
  apart : (key k : ℕ) → part_of_key key ≡ part → (key == the_key k) ≡ false
  apart key k of = ne_eqb key (the_key k) (λ e. other (sym of ∙ ap part_of_key e ∙ gathers_key k))

  step_apart : (step : ExtraStep) (k : ℕ) → IsStepOf part step → StepFor (the_key k) step
  step_apart (Registers future key) k of = apart key k of
  step_apart (CallsSoon key) k of = apart key k of
  step_apart (CallsLater when key) k of = apart key k of
  step_apart MakesPlain k of = tt
  step_apart (MakesMany members) k of = tt
  step_apart (Settles future outcome) k of = tt
  step_apart (Releases future) k of = tt
  step_apart (Revokes tag) k of = tt
  step_apart (Cancels key future) k of = tt
  step_apart (Uncancels key task) k of = tt

  step_books : (step : ExtraStep) (k : ℕ) → IsStepOf part step → BooksNot (the_key k) step
  step_books (Cancels key future) k of = apart key k of
  step_books (Uncancels key task) k of = apart key k of
  step_books (Registers future key) k of = tt
  step_books (CallsSoon key) k of = tt
  step_books (CallsLater when key) k of = tt
  step_books MakesPlain k of = tt
  step_books (MakesMany members) k of = tt
  step_books (Settles future outcome) k of = tt
  step_books (Releases future) k of = tt
  step_books (Revokes tag) k of = tt

  all_apart : (steps : List ExtraStep) (k : ℕ) → Each (IsStepOf part) steps → Each (StepFor (the_key k)) steps
  all_apart [] k of = tt
  all_apart (step ∷ steps) k of = (step_apart step k of.0, all_apart steps k of.1)

  all_books : (steps : List ExtraStep) (k : ℕ) → Each (IsStepOf part) steps → Each (BooksNot (the_key k)) steps
  all_books [] k of = tt
  all_books (step ∷ steps) k of = (step_books step k of.0, all_books steps k of.1)

  -- what it answers stands under no key of this part
  waits_apart : (answer : ExtraAnswer) (kept : Gathered) (gs : List Generator) → WaitsAsPart part answer → IsFreeFor answer kept gs
  waits_apart (Answers value) kept gs of = tt
  waits_apart (Raises fault) kept gs of = tt
  waits_apart (extra.Waits on key) kept gs of = λ k e. absurd (other (sym of ∙ ap part_of_key e ∙ gathers_key k))
  waits_apart (extra.Asks code bytes key) kept gs of = λ k e. absurd (other (sym of ∙ ap part_of_key e ∙ gathers_key k))

  pub beside_right : (kept : Gathered) (l : Loop) (gs : List Generator) (steps : List ExtraStep) → KeepsRight kept l gs → Each (IsStepOf part) steps
      → KeepsRight kept (made_by_all steps l) gs
  beside_right kept l gs steps r of = still_right r steps (λ k. all_apart steps k of) (λ k. all_books steps k of)

-- ---- a request comes to be stood at
ready_on : (key : ℕ) (kept : Gathered) (gs hs : List Generator) → IsReady key kept gs
    → ((task k : ℕ) → StandsUnder hs task (the_key k) → StandsUnder gs task (the_key k)) → IsReady key kept hs
ready_on key kept gs hs ready fewer k e = let it = ready k e in (λ task h. it.0 task (fewer task k h), it.1, it.2)

stood_right : (kept : Gathered) (l : Loop) (gs hs : List Generator) (task key : ℕ) → KeepsRight kept l gs → IsReady key kept gs
    → ((other k : ℕ) → StandsUnder hs other (the_key k) → StandsUnder gs other (the_key k) ⊎ ((other ≡ task) × (the_key k ≡ key)))
    → KeepsRight kept l hs
stood_right kept l gs hs task key r ready stands = record {
  fresh = r.fresh;
  small = r.small;
  rings = r.rings;
  ringed = r.ringed;
  back = r.back;
  waits = r.waits;
  stood = λ other k h. stood other k (stands other k h);
  once = λ one other k h i. once one other k (stands one k h) (stands other k i);
  asked = r.asked;
  took = r.took;
}
  where
    stood : (other k : ℕ) → StandsUnder gs other (the_key k) ⊎ ((other ≡ task) × (the_key k ≡ key))
        → (k < length kept.drawn)
        × ((it : TimedWait) → timed_at kept k ≡ Some it → is_waiting it.state ≡ true)
    stood other k (inl h) = r.stood other k h
    stood other k (inr e) = let it = ready k (sym e.1) in (it.1, it.2)

    once : (one other k : ℕ) → StandsUnder gs one (the_key k) ⊎ ((one ≡ task) × (the_key k ≡ key))
        → StandsUnder gs other (the_key k) ⊎ ((other ≡ task) × (the_key k ≡ key)) → one ≡ other
    once one other k (inl h) (inl i) = r.once one other k h i
    once one other k (inl h) (inr e) = absurd ((ready k (sym e.1)).0 one h)
    once one other k (inr e) (inl i) = absurd ((ready k (sym e.1)).0 other i)
    once one other k (inr e) (inr f) = e.0 ∙ sym f.0

module _ {B C D : Type 0} (sync : Extra B) (exec : Extra C) (dgram : Extra D) (of_sync : KeepsToKeys OfSync sync) (of_exec : KeepsToKeys OfExec exec)
    (of_dgram : KeepsToKeys OfDgram dgram) where
  abbrev All : Type 0
  All = Parted Gathered B C D

  abbrev added : Extra All
  added = reach gather_means sync exec dgram

  abbrev pub Holds : State All → Type 0
  Holds s = KeepsRight s.extra.gather s.loop s.generators

  abbrev pub Called : (task : ℕ) → ExtraAnswer → State All → Type 0
  Called task answer s = Holds s × IsFreeFor answer s.extra.gather s.generators

  abbrev pub Woken : (task key : ℕ) → State All → Type 0
  Woken task key s = Holds s × IsReady key s.extra.gather s.generators

  sync_apart : OfSync ≡ OfGather → ⊥
  sync_apart e = absurd (cc)

  exec_apart : OfExec ≡ OfGather → ⊥
  exec_apart e = absurd (cc)

  dgram_apart : OfDgram ≡ OfGather → ⊥
  dgram_apart e = absurd (cc)

  -- ---- all else
  loop_right : (s t : State All) → Beside s t → Holds s → KeepsRight s.extra.gather t.loop t.generators
  loop_right s t here r =
      goes_right r t.loop t.generators (λ k. row_fewer (the_key k) here.loop)
      (λ k. row_same (asks (is_by_key (the_key k))) (asks_of (the_key k)) here.loop)
      (λ k. row_same (takes (is_by_key (the_key k))) (takes_of (the_key k)) here.loop) (λ task k h. here.stands task (the_key k) h)

  goes_beside : (s t : State All) → Beside s t → Holds s → Holds t
  goes_beside s t here r = subst (λ (kept : All). KeepsRight kept.gather t.loop t.generators) (sym here.kept) (loop_right s t here r)

  ready_beside : (key : ℕ) (s t : State All) → Beside s t → IsReady key s.extra.gather t.generators → IsReady key t.extra.gather t.generators
  ready_beside key s t here ready = subst (λ (kept : All). IsReady key kept.gather t.generators) (sym here.kept) ready

  stood_ready : (task key : ℕ) (s t : State All) → StandsUnder s.generators task key → Beside s t
      → ((other : ℕ) → StandsUnder t.generators task other → ⊥) → Holds s → IsReady key s.extra.gather t.generators
  stood_ready task key s t at here none r k e =
      let stands = subst (StandsUnder s.generators task) e at in
      let it = r.stood task k stands in (
        λ other h.
            none (the_key k)
            (subst (λ x. StandsUnder t.generators x (the_key k)) (r.once other task k (here.stands other (the_key k) h) stands) h),
        it.0,
        it.1,
      )

  stood_at : (task key : ℕ) (s t : State All) → StoodAt task key s t → Woken task key s → Holds t
  stood_at task key s t here woken =
      let moved =
      goes_right woken.0 t.loop s.generators (λ k. row_fewer (the_key k) here.loop)
      (λ k. row_same (asks (is_by_key (the_key k))) (asks_of (the_key k)) here.loop)
      (λ k. row_same (takes (is_by_key (the_key k))) (takes_of (the_key k)) here.loop) (λ other k h. h) in
      subst (λ (kept : All). KeepsRight kept.gather t.loop t.generators) (sym here.kept)
      (stood_right s.extra.gather t.loop s.generators t.generators task key moved woken.1 (λ other k h. here.stands other (the_key k) h))

  -- ---- calls
  abbrev CallIs : State All → ExtraCall All → Type 0
  CallIs s call = KeepsRight call.state.gather (made_by_all call.steps s.loop) s.generators

  abbrev SaidIs : State All → ExtraSaid All → Type 0
  SaidIs s said = CallIs s said.call × IsFreeFor said.answer said.call.state.gather s.generators

  asks_part : (part : Part) (task : ℕ) (code : ℤ) (arguments : List Value) (s : State All) → Holds s
      → SaidIs s ((part_as gather_means sync exec dgram part).ask task code arguments s)
  asks_part OfGather task code arguments s r = asked_right task code arguments (seen_by s.extra.gather s) r
  asks_part OfSync task code arguments s r =
      let it = of_sync.ask task code arguments (seen_by s.extra.sync s) in
      (beside_right OfSync sync_apart s.extra.gather s.loop s.generators _ r it.0, waits_apart OfSync sync_apart _ s.extra.gather s.generators it.1)
  asks_part OfExec task code arguments s r =
      let it = of_exec.ask task code arguments (seen_by s.extra.exec s) in
      (beside_right OfExec exec_apart s.extra.gather s.loop s.generators _ r it.0, waits_apart OfExec exec_apart _ s.extra.gather s.generators it.1)
  asks_part OfDgram task code arguments s r =
      let it = of_dgram.ask task code arguments (seen_by s.extra.dgram s) in
      (beside_right OfDgram dgram_apart s.extra.gather s.loop s.generators _ r it.0, waits_apart OfDgram dgram_apart _ s.extra.gather s.generators it.1)

  abbrev ask_at : Option Part → (task : ℕ) (code : ℤ) → List Value → State All → ExtraSaid All
  ask_at o task code arguments s =
      elim o [
        | None ↦ refuses (unknown_code code) s.extra
        | Some part ↦ (part_as gather_means sync exec dgram part).ask task code arguments s
      ]

  abbrev item_at : Option Part → (code : ℤ) → List ℕ → State All → ExtraCall All
  item_at o code bytes s =
      elim o [ None ↦ stays s.extra | Some part ↦ (part_as gather_means sync exec dgram part).item code bytes s ]

  asked_part : (o : Option Part) (task : ℕ) (code : ℤ) (arguments : List Value) (s : State All) → Holds s → SaidIs s (ask_at o task code arguments s)
  asked_part None task code arguments s r = (r, tt)
  asked_part (Some part) task code arguments s r = asks_part part task code arguments s r

  wakes_part : (part : Part) (task key : ℕ) (input : Input) (s : State All) → part_of_key key ≡ part → Woken task key s
      → SaidIs s ((part_as gather_means sync exec dgram part).wake key input s)
  wakes_part OfGather task key input s e woken =
      woken_right s.extra.gather s.loop s.generators woken.0 key (place_of gather_part key) input (key_here key e) woken.1
      (slice_get s.extra.gather.drawn (place_of gather_part key)) refl
  wakes_part OfSync task key input s e woken =
      let it = of_sync.wake key input (seen_by s.extra.sync s) e in
      (beside_right OfSync sync_apart s.extra.gather s.loop s.generators _ woken.0 it.0, waits_apart OfSync sync_apart _ s.extra.gather s.generators it.1)
  wakes_part OfExec task key input s e woken =
      let it = of_exec.wake key input (seen_by s.extra.exec s) e in
      (beside_right OfExec exec_apart s.extra.gather s.loop s.generators _ woken.0 it.0, waits_apart OfExec exec_apart _ s.extra.gather s.generators it.1)
  wakes_part OfDgram task key input s e woken =
      let it = of_dgram.wake key input (seen_by s.extra.dgram s) e in
      (beside_right OfDgram dgram_apart s.extra.gather s.loop s.generators _ woken.0 it.0, waits_apart OfDgram dgram_apart _ s.extra.gather s.generators it.1)

  taken_right : (handle : Handle) (rest : List Handle) (s : State All) (key : ℕ) → s.loop.parts.pending ≡ handle ∷ rest → Holds s → Holds (runs key rest s)
  taken_right handle rest s key first r =
      goes_right r (runs key rest s).loop s.generators (λ j. change_fewer (the_key j) (LeavesPending rest) s.loop.parts (handle, first)) (λ j. refl) (λ j. refl)
      (λ task j h. h)

  acts_part : (part : Part) (key : ℕ) (handle : Handle) (rest : List Handle) (s : State All) → part_of_key key ≡ part
      → s.loop.parts.pending ≡ handle ∷ rest → handle.dead ≡ false → handle.action ≡ action.Extra key → Holds s
      → CallIs (runs key rest s) ((part_as gather_means sync exec dgram part).act key (runs key rest s))
  acts_part OfGather key handle rest s e first live is r =
      acted_right s.extra.gather s.loop s.generators r (place_of gather_part key) handle rest first live (is ∙ ap action.Extra (key_here key e))
  acts_part OfSync key handle rest s e first live is r =
      beside_right OfSync sync_apart s.extra.gather (runs key rest s).loop s.generators _ (taken_right handle rest s key first r)
      (of_sync.act key (seen_by s.extra.sync (runs key rest s)) e)
  acts_part OfExec key handle rest s e first live is r =
      beside_right OfExec exec_apart s.extra.gather (runs key rest s).loop s.generators _ (taken_right handle rest s key first r)
      (of_exec.act key (seen_by s.extra.exec (runs key rest s)) e)
  acts_part OfDgram key handle rest s e first live is r =
      beside_right OfDgram dgram_apart s.extra.gather (runs key rest s).loop s.generators _ (taken_right handle rest s key first r)
      (of_dgram.act key (seen_by s.extra.dgram (runs key rest s)) e)

  news_part : (o : Option Part) (code : ℤ) (bytes : List ℕ) (s : State All) → Holds s → CallIs s (item_at o code bytes s)
  news_part None code bytes s r = r
  news_part (Some OfGather) code bytes s r = r
  news_part (Some OfSync) code bytes s r =
      beside_right OfSync sync_apart s.extra.gather s.loop s.generators _ r (of_sync.item code bytes (seen_by s.extra.sync s))
  news_part (Some OfExec) code bytes s r =
      beside_right OfExec exec_apart s.extra.gather s.loop s.generators _ r (of_exec.item code bytes (seen_by s.extra.exec s))
  news_part (Some OfDgram) code bytes s r =
      beside_right OfDgram dgram_apart s.extra.gather s.loop s.generators _ r (of_dgram.item code bytes (seen_by s.extra.dgram s))

  pub timed_walk : Walks added Holds Called Woken
  timed_walk = record {
    beside = goes_beside;
    asks = λ task code arguments s r. asked_part (part_of_code code) task code arguments s r;
    stood = λ task key s t at here none r. (goes_beside s t here r, ready_beside key s t here (stood_ready task key s t at here none r));
    done = λ task on key outcome s is it. it;
    hears = λ task key code bytes s t here it. (
      goes_beside s t here it.0,
      ready_beside key s t here (ready_on key s.extra.gather s.generators t.generators it.1 (λ other k h. here.stands other (the_key k) h)),
    );
    wakes = λ task key input s woken. wakes_part (part_of_key key) task key input s refl woken;
    woken = λ task key s it. it.0;
    over = λ task answer s it. it.0;
    waits = λ task on key s t here it. stood_at task key s t here it;
    acts = λ key handle rest s first live is r. acts_part (part_of_key key) key handle rest s refl first live is r;
    news = λ code bytes s r. news_part (part_of_code code) code bytes s r;
  }

  -- ---- a run begins
  asked_serves : (key : ℕ) → Asked ≡ Serving key → ⊥
  asked_serves key e = absurd (cc)

  module _ (b : B) (c : C) (d : D) (most : ℕ) (program : Program) (answers : List Entry) where
    abbrev begun : State All
    begun = start most (first_parted b c d) program answers

    stands_nowhere : (task key : ℕ) → StandsUnder begun.generators task key → ⊥
    stands_nowhere zero key e = asked_serves key e
    stands_nowhere (suc task) key e = asked_serves key e

    no_callback : (key id : ℕ) → count_by (is_key key) (callbacks_of begun.loop.parts id) ≡ 0
    no_callback key zero = refl
    no_callback key (suc id) = refl

    pub begins_right : Holds begun
    begins_right = record {
      fresh = λ k h. (no_callback (the_key k), refl);
      small = λ k h. (refl, refl);
      rings = λ k it e f. absurd (none-some it e);
      ringed = λ other k it e f. absurd (none-some k e);
      back = λ other k e. absurd (none-some k e);
      waits = λ k it tag e f. absurd (none-some it e);
      stood = λ task k h. absurd (stands_nowhere task (the_key k) h);
      once = λ task other k h i. absurd (stands_nowhere task (the_key k) h);
      asked = λ k. refl;
      took = λ k. refl;
    }

-- ---- so the ledger says
asked_same : (o : Option Drawn) → asked_in (timed_in o) ≡ asked_of o
asked_same None = refl
asked_same (Some (WaitsFor it)) = refl
asked_same (Some _) = refl

took_same : (o : Option Drawn) → took_in (timed_in o) ≡ took_of o
took_same None = refl
took_same (Some (WaitsFor it)) = refl
took_same (Some _) = refl

pub asks_once_in : (kept : Gathered) (l : Loop) (gs : List Generator) → KeepsRight kept l gs → AsksOnce kept l.ledger
asks_once_in kept l gs r = record {
  asked = λ place. r.asked place ∙ asked_same (slice_get kept.drawn place);
  took = λ place. r.took place ∙ took_same (slice_get kept.drawn place);
}
