-- What a call may do where there is a state that is stood for, whichever it is.
use Rattle.std.proofs.Common.{◌≡◌, ℕ, ◌<◌, true, Option, Some, None, length, slice_get, ◌∙◌, refl, sym, ap, subst}
use Rattle.std.proofs.Math.Logic.{∥∥₁_elim, ∥∥₁_map}
use Rattle.std.proofs.Props.{props}
use Rattle.std.specs.Coded.{le_prop}
use Rattle.model_value.specs.Input.{Input}
use Rattle.model_loop.specs.Owning.{owner_at}
use Rattle.model_loop.specs.Parts.{Parts}
use Rattle.model_machine.specs.Sound.{sends_made}
use Rattle.model_machine.specs.State as plain
use Rattle.model_machine.specs.State.{State, generator_of}
use Rattle.refine_parts.proofs.Telling.{owner_kept}
use Rattle.law_steps.proofs.CancelSound.{plain_within}
use Rattle.aio_gen.specs.declared.generator.Gen.{Gen}
use Rattle.aio_task.specs.Keeps.{NameMap, Keeps}
use Rattle.aio_task.specs.View.{View}
use Rattle.aio_timer.specs.declared.live.TimerId.{TimerId}
use Rattle.aio_extra.specs.Added.{Added, named_in}
use Rattle.aio_body.specs.declared.run_state.RunState.{RunState}
use Rattle.aio_body.specs.declared.resume_point.Slot.{Slot}
use Rattle.aio_body.specs.declared.resume_point.ResumePoint.{ResumePoint}
use Rattle.aio_body.specs.declared.resume_point.ResumePoint.TheVariants.{Asked, Sleeping, Leaving, Serving, Connecting, Yielding, Reading, ReadingAll}
use Rattle.aio_body.specs.Asked.{IsDeciding}
use Rattle.aio_body.specs.GivingUp.{IsNoTasks}
use Rattle.aio_body.specs.Stands.{Context, StandsAt, WaitsAs, holding, Possible}
use Rattle.aio_body.specs.Ids.{ids_in}
use Rattle.aio_body.proofs.Ids.{ids_as}
use Rattle.aio_body.proofs.May.{same_prop}
use Rattle.aio_step.specs.declared.steps.Started.{Started}
use Rattle.aio_step.specs.Stepping.{DecidesAs, HasBegun, HearsMade, IsCalled, begun_by, begun_in, IsDecidingAs}
use Rattle.aio_step.proofs.Called.{called_heard, called_own, called_slot, made_as, own_slot}

-- ---- a step begins
module _ {X : Type 0} {a : Added X} (task : ℕ) (body : RunState X) (may : Possible a (IsCalled task) body) where
  pub begin_called : body.parts.called ≡ Some task
  begin_called = ∥∥₁_elim may (same_prop body.parts.called (Some task)) (λ w. w.1.1.called)

  pub begin_alone : body.parts.running ≡ None
  begin_alone = ∥∥₁_elim may (same_prop body.parts.running None) (λ w. w.1.1.running)

  pub begin_there : task < length body.slots.items
  begin_there = ∥∥₁_elim may le_prop (λ w. called_slot task w.0 body w.1.0 w.1.1)

  -- the future of a sleep is no task's
  at_sleep : (t : NameMap) (p : Parts) (named : ℕ → Type 0) (timer : TimerId) (future : ℕ) (v : View) → Keeps t v p → (resume_point : plain.ResumePoint)
      → StandsAt t p named task (Sleeping timer future) resume_point → owner_at (slice_get v.futures future) ≡ None
  at_sleep t p named timer future v k (plain.Sleeping tag) at = owner_kept t v p k future (plain_within p future at.1.plain).0
  at_sleep t p named timer future v k plain.Asked at = absurd at
  at_sleep t p named timer future v k (plain.Leaving id) at = absurd at
  at_sleep t p named timer future v k (plain.Serving key) at = absurd at
  at_sleep t p named timer future v k (plain.Connecting conn) at = absurd at
  at_sleep t p named timer future v k (plain.Yielding whom) at = absurd at
  at_sleep t p named timer future v k (plain.Reading from op on) at = absurd at
  at_sleep t p named timer future v k (plain.ReadingAll from had on) at = absurd at

  -- nor is that of a connect
  at_connect : (t : NameMap) (p : Parts) (named : ℕ → Type 0) (conn future : ℕ) (v : View) → Keeps t v p → (resume_point : plain.ResumePoint)
      → StandsAt t p named task (Connecting conn future) resume_point → owner_at (slice_get v.futures future) ≡ None
  at_connect t p named conn future v k (plain.Connecting id) at = owner_kept t v p k future (plain_within p future at.1.plain).0
  at_connect t p named conn future v k plain.Asked at = absurd at
  at_connect t p named conn future v k (plain.Sleeping tag) at = absurd at
  at_connect t p named conn future v k (plain.Leaving id) at = absurd at
  at_connect t p named conn future v k (plain.Serving key) at = absurd at
  at_connect t p named conn future v k (plain.Yielding whom) at = absurd at
  at_connect t p named conn future v k (plain.Reading from op on) at = absurd at
  at_connect t p named conn future v k (plain.ReadingAll from had on) at = absurd at

  of_connect : (conn future : ℕ) (slot : Slot) → slot.resume_point ≡ Connecting conn future → slice_get body.slots.items task ≡ Some slot
      → owner_at (slice_get body.parts.futures future) ≡ None
  of_connect conn future slot e there =
      ∥∥₁_elim may (same_prop (owner_at (slice_get body.parts.futures future)) None) (λ w.
      let h : IsCalled task w.0 body w.1.0 = w.1.1 in
      let has = own_slot task w.0 body w.1.0 h in
      at_connect h.stands.name_map w.1.0.loop.parts (named_in a w.1.0) conn future body.parts h.stands.keeps (generator_of task w.1.0).resume_point
      (subst (λ x. StandsAt h.stands.name_map w.1.0.loop.parts (named_in a w.1.0) task x (generator_of task w.1.0).resume_point)
      (sym (ap (λ (x : Slot). x.resume_point) (called_own task w.0 body w.1.0 h slot there)) ∙ e) has.right.resume_point))

  of_sleep : (timer : TimerId) (future : ℕ) (slot : Slot) → slot.resume_point ≡ Sleeping timer future → slice_get body.slots.items task ≡ Some slot
      → owner_at (slice_get body.parts.futures future) ≡ None
  of_sleep timer future slot e there =
      ∥∥₁_elim may (same_prop (owner_at (slice_get body.parts.futures future)) None) (λ w.
      let h : IsCalled task w.0 body w.1.0 = w.1.1 in
      let has = own_slot task w.0 body w.1.0 h in
      at_sleep h.stands.name_map w.1.0.loop.parts (named_in a w.1.0) timer future body.parts h.stands.keeps (generator_of task w.1.0).resume_point
      (subst (λ x. StandsAt h.stands.name_map w.1.0.loop.parts (named_in a w.1.0) task x (generator_of task w.1.0).resume_point)
      (sym (ap (λ (x : Slot). x.resume_point) (called_own task w.0 body w.1.0 h slot there)) ∙ e) has.right.resume_point))

  pub begin_no_task : (v : View) → v.futures ≡ body.parts.futures → (slot : Slot) → slice_get body.slots.items task ≡ Some slot
      → IsNoTasks slot.resume_point v
  begin_no_task v same slot there = at slot.resume_point refl
    where
      at : (resume_point : ResumePoint) → slot.resume_point ≡ resume_point → IsNoTasks resume_point v
      at Asked e = tt
      at (Leaving group) e = tt
      at (Serving key) e = tt
      at (Yielding whom) e = tt
      at (Reading from op on) e = tt
      at (ReadingAll from taken on) e = tt
      at (Sleeping timer future) e = ap (λ fs. owner_at (slice_get fs future)) same ∙ of_sleep timer future slot e there
      at (Connecting conn future) e = ap (λ fs. owner_at (slice_get fs future)) same ∙ of_connect conn future slot e there

  -- there is a coroutine
  pub begin_held : (slot : Slot) → slice_get body.slots.items task ≡ Some slot → slot.coroutine ≡ None → ⊥
  begin_held slot there none =
      ∥∥₁_elim may (λ x y. absurd x) (λ w.
      let has = own_slot task w.0 body w.1.0 w.1.1 in
      no_waits w.1.0 has.slot.coroutine (sym (ap (λ (x : Slot). x.coroutine) (called_own task w.0 body w.1.0 w.1.1 slot there)) ∙ none) has.right.waits)
    where
      no_waits : (s : State a.Kept) (o : Option Gen) → o ≡ None → WaitsAs s.program body.code (generator_of task s) o → ⊥
      no_waits s None e h = h
      no_waits s (Some coroutine) e h = absurd (cc)

-- ---- what its input means
module _ {X : Type 0} {a : Added X} where
  pub decide_of : (task : ℕ) (input : Input) (old new : RunState X) (started : Started) → Possible a (IsCalled task) old
      → ((c : Context a) (s : State a.Kept) → IsCalled task c old s → HasBegun task input c s started new)
      → Possible a (IsDecidingAs task started.resume_point) new
  decide_of task input old new started may begun =
      ∥∥₁_map may (λ w. let b = begun w.0 w.1.0 w.1.1 in
      (holding started.coroutine w.0, (begun_in task input w.1.0, ((generator_of task w.1.0).resume_point, (b.decides, b.deciding)))))

  pub decide_hears : (task : ℕ) (input : Input) (old new : RunState X) (started : Started) → Possible a (IsCalled task) old → HearsMade input old
      → ((c : Context a) (s : State a.Kept) → IsCalled task c old s → HasBegun task input c s started new) → HearsMade started.input new
  decide_hears task input old new started may made begun =
      ∥∥₁_elim may (hlevel props) (λ w.
      let b = begun w.0 w.1.0 w.1.1 in
      ap (sends_made (ids_in new)) b.heard
      ∙ made_as _ _ (begun_by task input w.1.0).input
      (ids_as (Some task) (holding started.coroutine w.0) new (begun_in task input w.1.0) b.deciding.in_step.stands)
      (called_heard task w.0 old w.1.0 w.1.1 input made))

  -- where the machine's task stood at this alone
  pub stood_of : (task : ℕ) (code : ResumePoint) (stood : plain.ResumePoint) → ((other : plain.ResumePoint) → DecidesAs code other → stood ≡ other)
      → (body : RunState X) → Possible a (IsDecidingAs task code) body → Possible a (IsDeciding task stood) body
  stood_of task code stood is body may =
      ∥∥₁_map may (λ w. (w.0, (w.1.0, subst (λ st. IsDeciding task st w.0 body w.1.0) (sym (is w.1.1.0 w.1.1.1.0)) w.1.1.1.1)))
