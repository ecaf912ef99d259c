-- The handles before the bar: one call takes the next that lives, and the machine takes the dead ones before it one by one.
use Rattle.std.proofs.Common.{◌≡◌, ℕ, zero, suc, ◌+◌, ◌<◌, Bool, true, false, List, [], ◌∷◌, ◌++◌, Option, Some, None, length, cond, ◌∙◌, refl, sym, ap, subst}
use Rattle.std.proofs.Common.{arith}
use Rattle.std.specs.List.{AllByRecursion as Each, count_by}
use Rattle.std.specs.Prelude.{nat_lt}
use Rattle.std.proofs.lemmas.Bool.{lt-ltb, le-ltb}
use Rattle.std.proofs.lemmas.List.Sums.{sum_by-cons}
use Rattle.model_value.specs.Action.{Action}
use Rattle.model_says.specs.Says.{step_limit}
use Rattle.model_wire.specs.declared.event.Event.TheVariants as event
use Rattle.model_loop.specs.Loop.{in_parts}
use Rattle.model_loop.specs.Parts.{Handle, Parts}
use Rattle.model_machine.specs.Extra.{Extra}
use Rattle.model_machine.specs.Sound.{IsStateSound}
use Rattle.model_machine.specs.State.{State, noted, unbooked_in}
use Rattle.model_machine.specs.Turn.{effect, next_below, ran, run_below, run_if}
use Rattle.model_machine.specs.Went.{Goes, went_on}
use Rattle.aio_ready.specs.Queue as queue
use Rattle.aio_task.specs.View.{View, stepped_at}
use Rattle.aio_task.specs.Keeps.{NameMap, Keeps, Kept}
use Rattle.aio_extra.specs.Added.{Added, named_in}
use Rattle.aio_body.specs.declared.run_state.RunState.{RunState}
use Rattle.aio_body.specs.Stands.{Context, IsBetween}
use Rattle.aio_body.specs.Taken.{IsNext}
use Rattle.refine_parts.specs.Runs.{IsPastBar, Runs, Skips}
use Rattle.refine_parts.proofs.Running.{count_early}
use Rattle.refine_parts.proofs.Skipping.{keeps_next}
use Rattle.aio_body.proofs.Lasting.{spares_none, stands_left}
use Rattle.aio_body.proofs.Leaving.{Leaves}
use Rattle.aio_body.proofs.Left.{leaves_handles}
use Rattle.aio_body.proofs.Sound.{dead_sound, extra_sound}

-- the state with these handles pending
abbrev pub with_pending : {S : Type 0} → List Handle → State S → State S
with_pending handles s = unbooked_in (λ p. record p { pending = handles }) s

abbrev pub AreDead : ℕ → List Handle → Type 0
AreDead bar = Each (λ (handle : Handle). (handle.dead ≡ true) × (handle.stamp < bar))

-- ---- the machine
one_dead : {S : Type 0} (added : Extra S) (bar k : ℕ) (handle : Handle) (rest : List Handle) (s : State S) → s.loop.parts.pending ≡ handle ∷ rest
    → handle.stamp < bar
    → handle.dead ≡ true → run_below step_limit added bar (suc k) s ≡ run_below step_limit added bar k (with_pending rest s)
unfolding run_below
one_dead added bar k handle rest s pending early dead =
    ap (λ xs. next_below step_limit added bar xs (run_below step_limit added bar k) s) pending
    ∙ ap (λ b. run_if step_limit added b handle rest (run_below step_limit added bar k) s) (lt-ltb handle.stamp bar early)
    ∙ ap (λ b. went_on (run_below step_limit added bar k) (ran step_limit added b handle.action (with_pending rest s))) dead

pub all_dead : {S : Type 0} (added : Extra S) (bar m : ℕ) (dead left : List Handle) (s : State S) → s.loop.parts.pending ≡ dead ++ left → AreDead bar dead
    → run_below step_limit added bar (length dead + m) s ≡ run_below step_limit added bar m (with_pending left s)
all_dead added bar m [] left s pending are =
    ap (λ k. run_below step_limit added bar k s) (none m) ∙ ap (λ xs. run_below step_limit added bar m (with_pending xs s)) pending
  where
    none : (m : ℕ) → 0 + m ≡ m
    none m = omega arith
all_dead added bar m (handle ∷ dead) left s pending are =
    ap (λ k. run_below step_limit added bar k s) (more (length dead) m)
    ∙ one_dead added bar (length dead + m) handle (dead ++ left) s pending are.0.1 are.0.0
    ∙ all_dead added bar m dead left (with_pending (dead ++ left) s) refl are.1
  where
    more : (a b : ℕ) → suc a + b ≡ suc (a + b)
    more a b = omega arith

pub one_live : {S : Type 0} (added : Extra S) (bar m : ℕ) (handle : Handle) (rest : List Handle) (s : State S) → s.loop.parts.pending ≡ handle ∷ rest
    → handle.stamp < bar
    → handle.dead ≡ false
    → run_below step_limit added bar (suc m) s
    ≡ went_on (run_below step_limit added bar m) (effect step_limit added handle.action (noted (event.Ran handle.action) (with_pending rest s)))
unfolding run_below
one_live added bar m handle rest s pending early live =
    ap (λ xs. next_below step_limit added bar xs (run_below step_limit added bar m) s) pending
    ∙ ap (λ b. run_if step_limit added b handle rest (run_below step_limit added bar m) s) (lt-ltb handle.stamp bar early)
    ∙ ap (λ b. went_on (run_below step_limit added bar m) (ran step_limit added b handle.action (with_pending rest s))) live

pub none_left : {S : Type 0} (added : Extra S) (bar m : ℕ) (s : State S) → IsPastBar bar s.loop.parts.pending → run_below step_limit added bar m s ≡ Goes s
unfolding run_below
none_left added bar zero s past = refl
none_left added bar (suc m) s past = at s.loop.parts.pending past
  where
    at : (xs : List Handle) → IsPastBar bar xs → next_below step_limit added bar xs (run_below step_limit added bar m) s ≡ Goes s
    at [] past = refl
    at (handle ∷ rest) past = ap (λ b. run_if step_limit added b handle rest (run_below step_limit added bar m) s) (le-ltb handle.stamp bar past)

pub deads_sound : {X : Type 0} (a : Added X) (bar : ℕ) (dead left : List Handle) (s : State a.Kept) → s.loop.parts.pending ≡ dead ++ left
    → AreDead bar dead → IsStateSound a.meaning s → IsStateSound a.meaning (with_pending left s)
deads_sound a bar [] left s pending are sound = subst (λ xs. IsStateSound a.meaning (with_pending xs s)) pending sound
deads_sound a bar (handle ∷ dead) left s pending are sound =
    deads_sound a bar dead left (with_pending (dead ++ left) s) refl are.1
    (dead_sound a.meaning (extra_sound a) s handle (dead ++ left) sound pending are.0.0)

-- ---- counts
early : ℕ → Handle → Bool
early bar h = nat_lt h.stamp bar

pub count_dead : (bar : ℕ) (dead left : List Handle) → AreDead bar dead
    → count_by (λ (h : Handle). nat_lt h.stamp bar) (dead ++ left) ≡ length dead + count_by (λ (h : Handle). nat_lt h.stamp bar) left
count_dead bar [] left are = omega arith
count_dead bar (h ∷ dead) left are =
    let more = count_dead bar dead left are.1 in
    let c = sum_by-cons (λ (x : Handle). cond (nat_lt x.stamp bar) 1 0) h (dead ++ left) in
    let one : ◌≡◌ {A = ℕ} (cond (nat_lt h.stamp bar) 1 0) 1 = rw (lt-ltb h.stamp bar are.0.1) refl in
    omega (arith, more, c, one)

-- ---- what is kept
pub pending_leaves : (p : Parts) (handles : List Handle) → Leaves None p (record p { pending = handles })
pending_leaves p handles = leaves_handles p (record p { pending = handles }) refl refl refl

pub pending_kept : (t : NameMap) (v : View) (p : Parts) (handles : List Handle) → Keeps t v (record p { pending = handles })
    → Kept t p v (record p { pending = handles })
pending_kept t v p handles k = record {
  name_map = t;
  keeps = k;
  extends = record { known = λ tag below. refl; tags = omega arith; gone = refl; bar = refl };
}

module _ {X : Type 0} {a : Added X} where
  -- after a call of `next_below` that gave an action
  pub record IsRunning (action : Action) (c : Context a) (body : RunState X) (w : View) (s : State a.Kept) : Type 0 where
    pub now : State a.Kept
    pub next : IsNext action (record c { left = length w.queue.below }) (record body { parts = w }) now
    pub goes : run_below step_limit a.meaning c.bar c.left s
        ≡ went_on (run_below step_limit a.meaning c.bar (length w.queue.below)) (effect step_limit a.meaning action (noted (event.Ran action) now))

-- the parts' view after a call of `next_below`
abbrev pub left_by : View → View
left_by v = record v { queue = queue.taken v.queue; called = stepped_at (queue.next_action v.queue) }

module _ {X : Type 0} {a : Added X} where
  pub next_runs : (c : Context a) (body : RunState X) (s : State a.Kept) (w : View) (action : Action) → (h : IsBetween c body s)
      → (skips : Skips h.stands.name_map w s.loop.parts (Some action)) → w ≡ left_by body.parts → queue.next_action body.parts.queue ≡ Some action
      → IsRunning action c body w s
  next_runs c body s w action h skips is next = at skips.left skips.pending skips.runs
    where
      t : NameMap
      t = h.stands.name_map

      p : Parts
      p = s.loop.parts

      at : (left : List Handle) → p.pending ≡ skips.dead ++ left → Runs t w p (Some action) left → IsRunning action c body w s
      at [] pending runs = absurd runs
      at (handle ∷ handles) pending runs = record {
        now = with_pending handles s;
        next = record {
          before = with_pending (handle ∷ handles) s;
          handle = handle;
          rest = handles;
          pending = refl;
          live = runs.1;
          runs = runs.2;
          sound = deads_sound a t.bar skips.dead (handle ∷ handles) s pending skips.are_dead h.sound;
          after = refl;
          stands =
              stands_left None None c body s w (in_parts (λ q. record q { pending = handles })) h.stands (pending_kept t w p handles runs.3)
              (pending_leaves p handles) (spares_none p (named_in a s)) (refl, (refl, refl)) (ap (λ (x : View). x.profile) is);
          called = ap (λ (x : View). x.called) is ∙ ap stepped_at next;
          running = ap (λ (x : View). x.running) is ∙ h.running;
        };
        goes =
            subst
            (λ b. run_below step_limit a.meaning b c.left s
            ≡ went_on (run_below step_limit a.meaning b (length w.queue.below))
            (effect step_limit a.meaning action (noted (event.Ran action) (with_pending handles s))))
            h.stands.bar
            (ap (λ k. run_below step_limit a.meaning t.bar k s) many
            ∙ all_dead a.meaning t.bar (suc (length w.queue.below)) skips.dead (handle ∷ handles) s pending skips.are_dead
            ∙ one_live a.meaning t.bar (length w.queue.below) handle handles (with_pending (handle ∷ handles) s) refl runs.0 runs.1
            ∙ ap
            (λ it. went_on (run_below step_limit a.meaning t.bar (length w.queue.below))
            (effect step_limit a.meaning it (noted (event.Ran it) (with_pending handles s)))) runs.2);
      }
        where
          many : c.left ≡ length skips.dead + suc (length w.queue.below)
          many =
              let all = count_early t body.parts p h.stands.keeps in
              let dead = ap (count_by (λ (x : Handle). nat_lt x.stamp t.bar)) pending ∙ count_dead t.bar skips.dead (handle ∷ handles) skips.are_dead in
              let rest = count_early t w (record p { pending = handles }) runs.3 in
              let more = sum_by-cons (λ (x : Handle). cond (nat_lt x.stamp t.bar) 1 0) handle handles in
              let one : ◌≡◌ {A = ℕ} (cond (nat_lt handle.stamp t.bar) 1 0) 1 = rw (lt-ltb handle.stamp t.bar runs.0) refl in
              let few = h.stands.left in
              omega (arith, all, dead, rest, more, one, few)

  -- where it gave none, none is left
  pub record IsAtBar (c : Context a) (body : RunState X) (w : View) (s : State a.Kept) : Type 0 where
    pub now : State a.Kept
    pub between : IsBetween (record c { left = length w.queue.below }) (record body { parts = w }) now
    pub goes : run_below step_limit a.meaning c.bar c.left s ≡ Goes now

  pub next_none : (c : Context a) (body : RunState X) (s : State a.Kept) (w : View) → (h : IsBetween c body s)
      → (skips : Skips h.stands.name_map w s.loop.parts None) → w ≡ left_by body.parts → queue.next_action body.parts.queue ≡ None
      → IsAtBar c body w s
  next_none c body s w h skips is next = record {
    now = with_pending skips.left s;
    between = record {
      stands =
          stands_left None None c body s w (in_parts (λ q. record q { pending = skips.left })) h.stands (pending_kept t w p skips.left skips.runs.1)
          (pending_leaves p skips.left) (spares_none p (named_in a s)) (refl, (refl, refl)) (ap (λ (x : View). x.profile) is);
      called = ap (λ (x : View). x.called) is ∙ ap stepped_at next;
      running = ap (λ (x : View). x.running) is ∙ h.running;
      sound = deads_sound a t.bar skips.dead skips.left s skips.pending skips.are_dead h.sound;
    };
    goes =
        subst (λ b. run_below step_limit a.meaning b c.left s ≡ Goes (with_pending skips.left s)) h.stands.bar
        (ap (λ k. run_below step_limit a.meaning t.bar k s) many
        ∙ all_dead a.meaning t.bar (length w.queue.below) skips.dead skips.left s skips.pending skips.are_dead
        ∙ none_left a.meaning t.bar (length w.queue.below) (with_pending skips.left s) skips.runs.0);
  }
    where
      t : NameMap
      t = h.stands.name_map

      p : Parts
      p = s.loop.parts

      many : c.left ≡ length skips.dead + length w.queue.below
      many =
          let all = count_early t body.parts p h.stands.keeps in
          let dead = ap (count_by (λ (x : Handle). nat_lt x.stamp t.bar)) skips.pending ∙ count_dead t.bar skips.dead skips.left skips.are_dead in
          let rest = count_early t w (record p { pending = skips.left }) skips.runs.1 in
          let few = h.stands.left in
          omega (arith, all, dead, rest, few)

  -- what the parts beneath say of this call
  pub skipped : (c : Context a) (body : RunState X) (s : State a.Kept) (w : View) (next : Option Action) → (h : IsBetween c body s)
      → w ≡ left_by body.parts → queue.next_action body.parts.queue ≡ next → Skips h.stands.name_map w s.loop.parts next
  skipped c body s w next h is same =
      subst (λ n. Skips h.stands.name_map w s.loop.parts n) same
      (subst (λ x. Skips h.stands.name_map x s.loop.parts (queue.next_action body.parts.queue)) (sym is)
      (keeps_next h.stands.name_map body.parts s.loop.parts (stepped_at (queue.next_action body.parts.queue)) h.stands.keeps))
