-- Calls of what is added: nothing comes to hold what they make, and what they settle none of stays, or is cancelled.
use Rattle.std.proofs.Common.{◌≡◌, inl, inr, ℕ, zero, suc, ◌<◌, ◌≤◌, Bool, true, false, List, [], ◌∷◌, ◌++◌, Option, Some, None, length, slice_get, refl, sym}
use Rattle.std.proofs.Common.{ap, subst, ◌∙◌}
use Rattle.std.proofs.Common.{arith, le_refl, length-append}
use Rattle.std.proofs.Math.ListN.{length-set}
use Rattle.std.specs.Prelude.{◌-◌, ◌&&◌, ◌||◌, ◌==◌, nat_le, nat_lt}
use Rattle.std.specs.List.{AllByRecursion as Each}
use Rattle.std.specs.Option.{option_map_or}
use Rattle.std.proofs.lemmas.Bool.{false≢true, true≢false, eqb-true, eq-eqb, lt-ltb, le-leb, ltb-true, leb-true, and_parts, or_parts}
use Rattle.model_value.specs.Action.{Action}
use Rattle.model_value.specs.declared.action.Action.TheVariants as action
use Rattle.model_value.specs.Value.{Outcome}
use Rattle.model_loop.proofs.FutureCases.{registered, registered_on}
use Rattle.model_loop.specs.Cancel.{cancel}
use Rattle.model_loop.specs.Futures.{asked_kind, mark_asked, make_future, next_future, register, with_future}
use Rattle.model_loop.specs.Ledger.{ByExtra}
use Rattle.model_loop.specs.Loop.{Loop, in_parts}
use Rattle.model_loop.specs.Parts.{Future, FutureKind, Many, Parts, Plain, Task}
use Rattle.model_loop.specs.Tasks.{change_task, must_still_cancel}
use Rattle.model_machine.specs.Extra as extra
use Rattle.model_machine.specs.Extra.{Extra, ExtraCall, ExtraStep, called, made_by, made_by_all}
use Rattle.model_machine.specs.State.{State}
use Rattle.model_stream.specs.Kept.{OneIs}
use Rattle.law_apart.proofs.Loops.{Safe, asks_safe, change_safe, safe_same, safe_then, takes_safe}
use Rattle.law_apart.proofs.Parts.{settle_apart, settle_made}
use Rattle.law_apart.specs.Apart.{CallsNoSleep, EndsTheirs, GroupApart, HandleApart, IsLoopApart, IsTheirs}
use Rattle.law_apart.specs.Apart.{TaskApart, TimerApart}
use Rattle.law_cases.proofs.Composing.{streams_more}
use Rattle.law_cancel.proofs.Effects.{change_task-futures}
use Rattle.law_changes.proofs.Folds.{fold}
use Rattle.law_changes.proofs.PartsRows.{cancel_in}
use Rattle.law_changes.specs.Blocks.{OfRequest, cancels, counts, keeps_asked, sets_must_cancel}
use Rattle.law_changes.specs.Changes.{CallsLater, CallsSoon, MakesFuture, PartsChange, Registers, Revokes, Settles, made_of_parts}
use Rattle.law_runs.specs.Allowed.{IsAmong}
use Rattle.law_sync.proofs.Lists.{among_each, each_append, each_on}
use Rattle.law_heeded.specs.Owned.{AreApart, IsCallKept, WasOwnOrMade, is_among, is_own}

-- ---- a test for what is among these
pub among_test : (ids : List ℕ) (id : ℕ) → is_among ids id ≡ true → IsAmong ids id
among_test [] id is = absurd (false≢true is)
among_test (x ∷ ids) id is = at (x == id) refl (λ h. among_test ids id h) is
  where
    at : (b : Bool) → (x == id) ≡ b → (is_among ids id ≡ true → IsAmong ids id) → (b || is_among ids id) ≡ true → IsAmong (x ∷ ids) id
    at true same next h = (0, ap Some (eqb-true x id same))
    at false other next h = let rest = next h in (suc rest.0, rest.1)

pub test_among : (ids : List ℕ) (id : ℕ) → IsAmong ids id → is_among ids id ≡ true
test_among [] id (place, e) = absurd (cc)
test_among (x ∷ ids) id (zero, e) = ap (λ b. b || is_among ids id) (eq-eqb x id (same x id e))
  where
    same : (x id : ℕ) → Some x ≡ Some id → x ≡ id
    same x id e = cc
test_among (x ∷ ids) id (suc place, e) = at (x == id) (test_among ids id (place, e))
  where
    at : (b : Bool) → is_among ids id ≡ true → (b || is_among ids id) ≡ true
    at true h = refl
    at false h = h

-- ---- what is spared stays, or is cancelled
abbrev pub Spares : (some : ℕ → Bool) → ExtraStep → Type 0
Spares some (extra.Settles future outcome) = some future ≡ false
Spares some _ = Unit {0}

module _ (ours : ℕ → Bool) (made : ℕ) (below : (future : ℕ) → ours future ≡ true → future < made) where
  step_safe : (step : ExtraStep) (l : Loop) → Spares ours step → Safe ours made below l (made_by step l)
  step_safe extra.MakesPlain l spares = change_safe ours made below (MakesFuture Plain) l (λ a. tt)
  step_safe (extra.MakesMany members) l spares = change_safe ours made below (MakesFuture (Many members false)) l (λ a. tt)
  step_safe (extra.Settles future outcome) l spares = change_safe ours made below (Settles future outcome) l (λ a. inl spares)
  step_safe (extra.Releases future) l spares = safe_same ours made below l
  step_safe (extra.Registers future key) l spares = change_safe ours made below (Registers future (action.Extra key)) l (λ a. refl)
  step_safe (extra.CallsSoon key) l spares = change_safe ours made below (CallsSoon (action.Extra key)) l (λ a. tt)
  step_safe (extra.CallsLater when key) l spares = change_safe ours made below (CallsLater when (action.Extra key)) l (λ a. tt)
  step_safe (extra.Revokes tag) l spares = change_safe ours made below (Revokes tag) l (λ a. tt)
  step_safe (extra.Cancels key future) l spares = asks_safe ours made below (ByExtra key) future l
  step_safe (extra.Uncancels key task) l spares = takes_safe ours made below (ByExtra key) task l

  pub steps_safe : (steps : List ExtraStep) (l : Loop) → Each (Spares ours) steps → Safe ours made below l (made_by_all steps l)
  steps_safe [] l spares = safe_same ours made below l
  steps_safe (step ∷ steps) l spares =
      safe_then ours made below l (made_by step l) (made_by_all steps (made_by step l)) (step_safe step l spares.0)
      (steps_safe steps (made_by step l) spares.1)

-- ---- how many futures there are
set_count : (id : ℕ) (future : Future) (p : Parts) → next_future (with_future id future p) ≡ next_future p
set_count id future p = length-set p.futures id future

register_count : (id : ℕ) (it : Action) (p : Parts) → next_future (register id it p) ≡ next_future p
register_count id it p = at (slice_get p.futures id)
  where
    until : (future : Future) (o : Option Outcome) → next_future (registered_on o id future it p) ≡ next_future p
    until future (Some done) = refl
    until future None = set_count id _ p

    at : (o : Option Future) → next_future (registered o id it p) ≡ next_future p
    at None = refl
    at (Some future) = until future future.outcome

mark_count : (id : ℕ) (p : Parts) → next_future (mark_asked id p) ≡ next_future p
mark_count id p = at (slice_get p.futures id)
  where
    at : (o : Option Future)
        → next_future (option_map_or (λ (future : Future). with_future id (record future { kind = asked_kind future.kind }) p) o p) ≡ next_future p
    at None = refl
    at (Some future) = set_count id _ p

task_count : (id : ℕ) (change : Task → Task) (p : Parts) → next_future (change_task id change p) ≡ next_future p
task_count id change p = ap (λ (fs : List Future). length fs) (change_task-futures id change p)

abbrev SameCount : Parts → Parts → Type 0
SameCount p q = next_future q ≡ next_future p

request_count : (change : PartsChange) (p : Parts) → OfRequest change p → SameCount p (made_of_parts change p)
request_count _ p (cancels future) = settle_made future _ p
request_count _ p (keeps_asked future) = mark_count future p
request_count _ p (counts task) = task_count task _ p
request_count _ p (sets_must_cancel task) = task_count task _ p

cancel_count : (id : ℕ) (p : Parts) → SameCount p (cancel id p).parts
cancel_count id p = fold SameCount (λ q. refl) (λ q r t a b. b ∙ a) request_count (cancel_in id p)

step_more : (step : ExtraStep) (l : Loop) → next_future l.parts ≤ next_future (made_by step l).parts
step_more extra.MakesPlain l = let e = length-append l.parts.futures (record { kind = Plain; outcome = None; callbacks = [] } ∷ []) in omega (arith, e)
step_more (extra.MakesMany members) l =
    let e = length-append l.parts.futures (record { kind = Many members false; outcome = None; callbacks = [] } ∷ []) in omega (arith, e)
step_more (extra.Settles future outcome) l = let e = settle_made future outcome l.parts in omega (arith, e)
step_more (extra.Releases future) l = le_refl _
step_more (extra.Registers future key) l = let e = register_count future (action.Extra key) l.parts in omega (arith, e)
step_more (extra.CallsSoon key) l = le_refl _
step_more (extra.CallsLater when key) l = le_refl _
step_more (extra.Revokes tag) l = le_refl _
step_more (extra.Cancels key future) l = let e = cancel_count future l.parts in omega (arith, e)
step_more (extra.Uncancels key task) l =
    let e = task_count task (λ it. record it { cancels = it.cancels - 1; must_cancel = must_still_cancel l.profile it }) l.parts in omega (arith, e)

-- none goes
pub steps_more : (steps : List ExtraStep) (l : Loop) → next_future l.parts ≤ next_future (made_by_all steps l).parts
steps_more [] l = le_refl _
steps_more (step ∷ steps) l = let a = step_more step l in let b = steps_more steps (made_by step l) in omega (arith, a, b)

-- ---- other futures are ours then
module _ (old new : ℕ → Bool) (made made_now next next_now : ℕ) (on : (future : ℕ) → IsTheirs old next future → IsTheirs new next_now future) where
  ends_on : (it : Action) → EndsTheirs old next it → EndsTheirs new next_now it
  ends_on (action.SleepDone task future) is = on future is
  ends_on _ is = tt

  one_on : (o : Option ℕ) → OneIs (IsTheirs old next) o → OneIs (IsTheirs new next_now) o
  one_on None is = tt
  one_on (Some future) is = on future is

  -- where the futures may be others
  pub apart_on : (l : Loop) (futures : List Future) → next ≡ next_future l.parts → next_now ≡ length futures → made_now ≤ next_now
      → Each CallsNoSleep futures → IsLoopApart old made l → IsLoopApart new made_now (record l { parts = record l.parts { futures = futures } })
  apart_on l futures is is_now reached calls a =
      let a_ = subst (λ n. Each (HandleApart old n) l.parts.pending) (sym is) a.parts.pending in
      record {
        parts = record {
          reached = subst (λ n. made_now ≤ n) is_now reached;
          pending = subst (λ n. Each (HandleApart new n) l.parts.pending) is_now
              (each_on (HandleApart old next) (HandleApart new next_now) (λ handle h. ends_on handle.action h) l.parts.pending a_);
          timers = subst (λ n. Each (TimerApart new n) l.parts.timers) is_now
              (each_on (TimerApart old next) (TimerApart new next_now) (λ timer h. ends_on timer.action h) l.parts.timers
              (subst (λ n. Each (TimerApart old n) l.parts.timers) (sym is) a.parts.timers));
          callbacks = calls;
          tasks = subst (λ n. Each (TaskApart new n) l.parts.tasks) is_now
              (each_on (TaskApart old next) (TaskApart new next_now) (λ task h. on task.future h) l.parts.tasks
              (subst (λ n. Each (TaskApart old n) l.parts.tasks) (sym is) a.parts.tasks));
        };
        groups = subst (λ n. Each (GroupApart new n) l.groups) is_now
            (each_on (GroupApart old next) (GroupApart new next_now) (λ group h. one_on group.exit_future h) l.groups
            (subst (λ n. Each (GroupApart old n) l.groups) (sym is) a.groups));
      }

-- ---- what a call makes is ours
-- or was made since so many were
abbrev since : (ours : ℕ → Bool) (first last : ℕ) → ℕ → Bool
since ours first last id = ours id || (nat_le first id && nat_lt id last)

module _ (ours : ℕ → Bool) (first : ℕ) (below : (future : ℕ) → ours future ≡ true → future < first) where
  since_below : (last : ℕ) → first ≤ last → (future : ℕ) → since ours first last future ≡ true → future < last
  since_below last le future is = at (ours future) refl is
    where
      at : (b : Bool) → ours future ≡ b → (b || (nat_le first future && nat_lt future last)) ≡ true → future < last
      at true e h = let l = below future e in omega (arith, l, le)
      at false e h = ltb-true future last (and_parts (nat_le first future) (nat_lt future last) h).1

  -- what is held, of so many, is held of more
  since_more : (last later : ℕ) (future : ℕ) → last ≤ later → IsTheirs (since ours first last) last future
      → IsTheirs (since ours first later) later future
  since_more last later future le is =
      let parts = or_parts (ours future) (nat_le first future && nat_lt future last) is.0 in
      let early = at (nat_le first future) (ap (λ b. nat_le first future && b) (sym (lt-ltb future last is.1)) ∙ parts.1) in (
        ap (λ b. b || (nat_le first future && nat_lt future later)) parts.0 ∙ ap (λ b. b && nat_lt future later) early,
        let w = is.1 in omega (arith, w, le),
      )
    where
      at : (b : Bool) → (b && true) ≡ false → b ≡ false
      at true h = absurd (true≢false h)
      at false h = refl

  abbrev Apart : Loop → Type 0
  Apart l = IsLoopApart (since ours first (next_future l.parts)) (next_future l.parts) l

  pub record Grown (l m : Loop) : Type 0 where
    pub apart : Apart m
    pub more : next_future l.parts ≤ next_future m.parts

  -- nothing is made
  same_grown : (l m : Loop) → first ≤ next_future l.parts → next_future m.parts ≡ next_future l.parts
      → IsLoopApart (since ours first (next_future l.parts)) (next_future l.parts) m → Grown l m
  same_grown l m le same a = record {
    apart = subst (λ n. IsLoopApart (since ours first n) n m) (sym same) a;
    more = omega (arith, same);
  }

  made_grown : (kind : FutureKind) (l : Loop) → first ≤ next_future l.parts → Apart l → Grown l (in_parts (make_future kind) l)
  made_grown kind l le a =
      let new : Future = record { kind = kind; outcome = None; callbacks = [] } in
      let n = next_future l.parts in
      let last = length (l.parts.futures ++ new ∷ []) in
      let more = length-append l.parts.futures (new ∷ []) in
      let grows : n ≤ last = omega (arith, more) in
      record {
        apart = apart_on (since ours first n) (since ours first last) n last n last (λ future is. since_more n last future grows is) l
            (l.parts.futures ++ new ∷ []) refl refl (le_refl last) (each_append CallsNoSleep l.parts.futures (new ∷ []) a.parts.callbacks (refl, tt)) a;
        more = grows;
      }

  -- by a change that settles none of them
  kept_grown : (step : ExtraStep) (l : Loop) → first ≤ next_future l.parts → Spares (since ours first (next_future l.parts)) step
      → next_future (made_by step l).parts ≡ next_future l.parts → Apart l → Grown l (made_by step l)
  kept_grown step l le spares same a =
      same_grown l (made_by step l) le same
      (step_safe (since ours first (next_future l.parts)) (next_future l.parts) (since_below (next_future l.parts) le) step l spares a).apart

  step_grown : (step : ExtraStep) (l : Loop) → first ≤ next_future l.parts → Apart l → Grown l (made_by step l)
  step_grown extra.MakesPlain l le a = made_grown Plain l le a
  step_grown (extra.MakesMany members) l le a = made_grown (Many members false) l le a
  step_grown (extra.Settles future outcome) l le a =
      let n = next_future l.parts in
      same_grown l (made_by (extra.Settles future outcome) l) le (settle_made future outcome l.parts) (record {
        parts = settle_apart (since ours first n) n (since_below n le) future outcome l.parts a.parts;
        groups = subst (λ m. Each (GroupApart (since ours first n) m) l.groups) (sym (settle_made future outcome l.parts)) a.groups;
      })
  step_grown (extra.Releases future) l le a = kept_grown (extra.Releases future) l le tt refl a
  step_grown (extra.Registers future key) l le a =
      kept_grown (extra.Registers future key) l le tt (register_count future (action.Extra key) l.parts) a
  step_grown (extra.CallsSoon key) l le a = kept_grown (extra.CallsSoon key) l le tt refl a
  step_grown (extra.CallsLater when key) l le a = kept_grown (extra.CallsLater when key) l le tt refl a
  step_grown (extra.Revokes tag) l le a = kept_grown (extra.Revokes tag) l le tt refl a
  step_grown (extra.Cancels key future) l le a = kept_grown (extra.Cancels key future) l le tt (cancel_count future l.parts) a
  step_grown (extra.Uncancels key task) l le a = kept_grown (extra.Uncancels key task) l le tt (task_count task _ l.parts) a

  pub steps_grown : (steps : List ExtraStep) (l : Loop) → first ≤ next_future l.parts → Apart l → Grown l (made_by_all steps l)
  steps_grown [] l le a = record { apart = a; more = le_refl _ }
  steps_grown (step ∷ steps) l le a =
      let b = step_grown step l le a in
      let m = b.more in
      let c = steps_grown steps (made_by step l) (omega (arith, le, m)) b.apart in
      let o = c.more in
      record { apart = c.apart; more = omega (arith, m, o) }

-- ---- a call leaves what is its own apart
module _ {S : Type 0} (added : Extra S) (call : ExtraCall S) (s : State S) (is : IsCallKept added call s) (a : AreApart added s) where
  abbrev ours : ℕ → Bool
  ours = is_own added s.extra

  abbrev first : ℕ
  first = next_future s.loop.parts

  abbrev after : Loop
  after = made_by_all call.steps s.loop

  -- what is held was not made in the call
  begins : (future : ℕ) → IsTheirs ours first future → IsTheirs (since ours first first) first future
  begins future theirs =
      (ap (λ b. b || (nat_le first future && nat_lt future first)) theirs.0 ∙ none (nat_le first future) refl (nat_lt future first) refl, theirs.1)
    where
      none : (b : Bool) → nat_le first future ≡ b → (c : Bool) → nat_lt future first ≡ c → (b && c) ≡ false
      none false e c g = refl
      none true e false g = refl
      none true e true g = let x = leb-true first future e in let y = theirs.1 in absurd (omega (arith, x, y))

  grown : Grown ours first a.below s.loop after
  grown =
      steps_grown ours first a.below call.steps s.loop (le_refl _)
      (apart_on ours (since ours first first) first first first first begins s.loop s.loop.parts.futures refl refl (le_refl _) a.apart.loop.parts.callbacks
      a.apart.loop)

  abbrev last : ℕ
  last = next_future after.parts

  own_since : (future : ℕ) → is_own added call.state future ≡ true → since ours first last future ≡ true
  own_since future own = at (among_each (WasOwnOrMade (added.keeps s.extra).own first last) (added.keeps call.state).own future is.own
      (among_test (added.keeps call.state).own future own))
    where
      past : (b : Bool) → (nat_le first future && nat_lt future last) ≡ true → (b || (nat_le first future && nat_lt future last)) ≡ true
      past true h = refl
      past false h = h

      at : WasOwnOrMade (added.keeps s.extra).own first last future → since ours first last future ≡ true
      at (inl was) = ap (λ b. b || (nat_le first future && nat_lt future last)) (test_among (added.keeps s.extra).own future was)
      at (inr made_in) =
          past (ours future) (ap (λ b. b && nat_lt future last) (le-leb first future made_in.0) ∙ lt-ltb future last made_in.1)

  -- so nothing holds what is its own then
  theirs_now : (future : ℕ) → IsTheirs (since ours first last) last future → IsTheirs (is_own added call.state) last future
  theirs_now future theirs = (at (is_own added call.state future) refl, theirs.1)
    where
      at : (b : Bool) → is_own added call.state future ≡ b → is_own added call.state future ≡ false
      at true own = absurd (true≢false (sym (own_since future own) ∙ theirs.0))
      at false other = other

  theirs_on : (future : ℕ) → IsTheirs ours first future → IsTheirs (is_own added call.state) last future
  theirs_on future theirs = theirs_now future (since_more ours first a.below first last future grown.more (begins future theirs))

  pub call_apart : AreApart added (called call s)
  call_apart = record {
    below = λ future own. since_below ours first a.below last grown.more future (own_since future own);
    apart = record {
      loop = apart_on (since ours first last) (is_own added call.state) last last last last theirs_now after after.parts.futures refl refl (le_refl _)
          grown.apart.parts.callbacks grown.apart;
      streams = streams_more (IsTheirs ours first) (IsTheirs (is_own added call.state) last) theirs_on s.streams a.apart.streams;
      scripts = each_on (IsTheirs ours first) (IsTheirs (is_own added call.state) last) theirs_on s.futures a.apart.scripts;
    };
  }
