-- A step has begun: what the parts, the task's slot and the machine come to.
use Rattle.std.proofs.Common.{◌≡◌, ℕ, ◌<◌, Bool, true, false, [], Some, None, length, slice_get, slice_set, ◌∙◌, refl, sym, ap, subst}
use Rattle.std.specs.Prelude.{is_some}
use Rattle.std.proofs.lemmas.Bool.{eq-eqb}
use Rattle.model_value.specs.Input.{Input}
use Rattle.model_loop.specs.Futures.{outcome_at}
use Rattle.model_loop.specs.Loop.{in_parts}
use Rattle.model_loop.specs.Owning.{OwnsFutures}
use Rattle.model_loop.specs.Parts.{Parts}
use Rattle.model_loop.specs.Tasks.{begin_step, lives, next_task}
use Rattle.model_machine.specs.State as plain
use Rattle.model_machine.specs.State.{State, generator_of, stands, unbooked_in}
use Rattle.model_machine.specs.Step.{given_up}
use Rattle.aio_task.specs.View.{View, parts}
use Rattle.aio_task.specs.Keeps.{NameMap}
use Rattle.aio_gen.specs.declared.generator.Gen.{Gen}
use Rattle.aio_extra.specs.Added.{Added, named_in}
use Rattle.aio_body.specs.declared.run_state.RunState.{RunState}
use Rattle.aio_body.specs.declared.resume_point.Slot.{Slot}
use Rattle.aio_body.specs.declared.resume_point.ResumePoint.{ResumePoint}
use Rattle.aio_body.specs.declared.resume_point.ResumePoint.TheVariants.{Asked, Sleeping, Leaving, Serving, Connecting, Yielding, Reading, ReadingAll}
use Rattle.aio_body.specs.GivingUp.{given_up_in, release_if, timer_cancelled}
use Rattle.aio_body.specs.Slots.{no_slot}
use Rattle.aio_body.specs.Stands.{Context, Stands, HasSlot, StandsAt}
use Rattle.aio_body.proofs.Kept.{input_kept, kept_begin}
use Rattle.aio_body.proofs.Left.{begun_waits, leaves_begin}
use Rattle.aio_body.proofs.Lasting.{spares_none, stands_on}
use Rattle.aio_step.specs.Stepping.{IsCalled, DecidesAs, HasBegun, begun_by}
use Rattle.aio_step.proofs.Beginning.{stands_taken}
use Rattle.aio_step.proofs.Called.{called_asked, called_asking, called_leaving, called_opened, called_within}
use Rattle.aio_step.proofs.Opening.{begin_revoke, gives_up}

-- ---- the machine gives up first
given_up_begun : (resume_point : plain.ResumePoint) (task : ℕ) (input : Input) (p : Parts)
    → given_up resume_point (begin_step task input p).parts ≡ (begin_step task input (given_up resume_point p)).parts
given_up_begun plain.Asked task input p = refl
given_up_begun (plain.Sleeping tag) task input p = sym (begin_revoke task input tag p)
given_up_begun (plain.Leaving group) task input p = refl
given_up_begun (plain.Serving key) task input p = refl
given_up_begun (plain.Connecting conn) task input p = refl
given_up_begun (plain.Yielding whom) task input p = refl
given_up_begun (plain.Reading from op on) task input p = refl
given_up_begun (plain.ReadingAll from had on) task input p = refl

given_up_heard : (resume_point : plain.ResumePoint) (task : ℕ) (input : Input) (p : Parts)
    → (begin_step task input p).input ≡ (begin_step task input (given_up resume_point p)).input
given_up_heard plain.Asked task input p = refl
given_up_heard (plain.Sleeping tag) task input p = refl
given_up_heard (plain.Leaving group) task input p = refl
given_up_heard (plain.Serving key) task input p = refl
given_up_heard (plain.Connecting conn) task input p = refl
given_up_heard (plain.Yielding whom) task input p = refl
given_up_heard (plain.Reading from op on) task input p = refl
given_up_heard (plain.ReadingAll from had on) task input p = refl

given_up_tasks : (resume_point : plain.ResumePoint) (p : Parts) → next_task (given_up resume_point p) ≡ next_task p
given_up_tasks plain.Asked p = refl
given_up_tasks (plain.Sleeping tag) p = refl
given_up_tasks (plain.Leaving group) p = refl
given_up_tasks (plain.Serving key) p = refl
given_up_tasks (plain.Connecting conn) p = refl
given_up_tasks (plain.Yielding whom) p = refl
given_up_tasks (plain.Reading from op on) p = refl
given_up_tasks (plain.ReadingAll from had on) p = refl

given_up_lives : (resume_point : plain.ResumePoint) (p : Parts) (task : ℕ) → lives (given_up resume_point p) task ≡ lives p task
given_up_lives plain.Asked p task = refl
given_up_lives (plain.Sleeping tag) p task = refl
given_up_lives (plain.Leaving group) p task = refl
given_up_lives (plain.Serving key) p task = refl
given_up_lives (plain.Connecting conn) p task = refl
given_up_lives (plain.Yielding whom) p task = refl
given_up_lives (plain.Reading from op on) p task = refl
given_up_lives (plain.ReadingAll from had on) p task = refl

given_up_owns : (resume_point : plain.ResumePoint) (p : Parts) → OwnsFutures (given_up resume_point p) → OwnsFutures p
given_up_owns plain.Asked p owns = owns
given_up_owns (plain.Sleeping tag) p owns = owns
given_up_owns (plain.Leaving group) p owns = owns
given_up_owns (plain.Serving key) p owns = owns
given_up_owns (plain.Connecting conn) p owns = owns
given_up_owns (plain.Yielding whom) p owns = owns
given_up_owns (plain.Reading from op on) p owns = owns
given_up_owns (plain.ReadingAll from had on) p owns = owns

-- ---- the view
release_calls : (b : Bool) (id : ℕ) (v : View) → (release_if b id v).called ≡ v.called
release_calls true id v = refl
release_calls false id v = refl

release_runs : (b : Bool) (id : ℕ) (v : View) → (release_if b id v).running ≡ v.running
release_runs true id v = refl
release_runs false id v = refl

given_calls : (resume_point : ResumePoint) (v : View) → (given_up_in resume_point v).called ≡ v.called
given_calls Asked v = refl
given_calls (Sleeping timer future) v = release_calls (is_some (outcome_at (slice_get v.futures future))) future (timer_cancelled timer v)
given_calls (Leaving group) v = refl
given_calls (Serving key) v = refl
given_calls (Connecting conn future) v = release_calls (is_some (outcome_at (slice_get v.futures future))) future v
given_calls (Yielding whom) v = refl
given_calls (Reading from op on) v = refl
given_calls (ReadingAll from taken on) v = refl

given_runs : (resume_point : ResumePoint) (v : View) → (given_up_in resume_point v).running ≡ v.running
given_runs Asked v = refl
given_runs (Sleeping timer future) v = release_runs (is_some (outcome_at (slice_get v.futures future))) future (timer_cancelled timer v)
given_runs (Leaving group) v = refl
given_runs (Serving key) v = refl
given_runs (Connecting conn future) v = release_runs (is_some (outcome_at (slice_get v.futures future))) future v
given_runs (Yielding whom) v = refl
given_runs (Reading from op on) v = refl
given_runs (ReadingAll from taken on) v = refl

-- ---- what it stood at
pub stood_decides : (t : NameMap) (p : Parts) (named : ℕ → Type 0) (task : ℕ) (code : ResumePoint) (resume_point : plain.ResumePoint)
    → StandsAt t p named task code resume_point → DecidesAs code resume_point
stood_decides t p named task (Sleeping timer future) (plain.Sleeping tag) at = tt
stood_decides t p named task (Connecting conn future) (plain.Connecting id) at = at.0
stood_decides t p named task _ _ at = at

module _ {X : Type 0} {a : Added X} (task : ℕ) (input : Input) (c : Context a) (body : RunState X) (s : State a.Kept) (h : IsCalled task c body s)
    (v : View) (after : parts v ≡ (begin_step task input (parts body.parts)).parts)
    (frame : v ≡ record body.parts { tasks = v.tasks; running = Some task; called = None }) where
  abbrev stood : plain.ResumePoint
  stood = (generator_of task s).resume_point

  -- the loop's step, before anything is given up
  abbrev begun : State a.Kept
  begun = unbooked_in (λ p. (begin_step task input p).parts) s

  stands_begun : Stands None c (record body { parts = v }) begun
  stands_begun =
      stands_on None None c body s v (in_parts (λ p. (begin_step task input p).parts)) h.stands
      (kept_begin h.stands.name_map body.parts v s.loop.parts h.stands.keeps task input (record {
        parts = after;
        queue = ([], ap (λ (x : View). x.queue) frame);
        time = ap (λ (x : View). x.time) frame;
        schedule = ap (λ (x : View). x.schedule) frame;
      }))
      (leaves_begin task input s.loop.parts) (spares_none s.loop.parts (named_in a s)) (refl, (refl, refl))
      (ap (λ (x : View). length x.queue.below) frame) (ap (λ (x : View). x.profile) frame)

  same_parts : given_up stood begun.loop.parts ≡ (begun_by task input s).parts
  same_parts = given_up_begun stood task input s.loop.parts

  begun_lives : lives begun.loop.parts task ≡ true
  begun_lives =
      sym (given_up_lives stood begun.loop.parts task) ∙ ap (λ q. lives q task) same_parts
      ∙ (called_asked task c body s h input).others.loop.parts.runs task (eq-eqb task task refl)

  begun_owns : OwnsFutures begun.loop.parts
  begun_owns =
      given_up_owns stood begun.loop.parts
      (subst OwnsFutures (sym same_parts) (called_asked task c body s h input).others.loop.parts.owns)

  abbrev begun_has : HasSlot a None c.coroutine stands_begun.name_map body.code body.slots.items begun task
  begun_has = stands_begun.held task begun_lives

  some_is : (a b : Slot) → Some a ≡ Some b → a ≡ b
  some_is a b e = cc

  module _ (slot : Slot) (coroutine : Gen) (there : slice_get body.slots.items task ≡ Some slot) (its : slot.coroutine ≡ Some coroutine) where
    stood_at : StandsAt stands_begun.name_map begun.loop.parts (named_in a s) task slot.resume_point (generator_of task s).resume_point
    stood_at =
        subst (λ (x : Slot). StandsAt stands_begun.name_map begun.loop.parts (named_in a s) task x.resume_point (generator_of task s).resume_point)
        (some_is begun_has.slot slot (sym begun_has.found ∙ there)) begun_has.right.resume_point

    abbrev given : RunState X
    given = record body { parts = given_up_in slot.resume_point v }

    stands_given : Stands None c given (unbooked_in (λ p. (begun_by task input s).parts) s)
    stands_given =
        subst (λ q. Stands None c given (unbooked_in (λ p. q) s)) same_parts
        (gives_up c (record body { parts = v }) begun task slot.resume_point (generator_of task s).resume_point stands_begun begun_owns stood_at
        (begun_waits task input s.loop.parts))

    within : task < next_task (begun_by task input s).parts
    within = subst (λ n. task < n) (sym h.stands.told ∙ stands_given.told) (called_within task c body s h)

    begins_so : (new : RunState X) → new ≡ record body { parts = given_up_in slot.resume_point v; slots = new.slots }
        → new.slots.items ≡ slice_set body.slots.items task no_slot
        → HasBegun task input c s (record { coroutine = coroutine; resume_point = slot.resume_point; input = (begin_step task input (parts body.parts)).input })
        new
    begins_so new same items = record {
      deciding = record {
        in_step = record {
          stands =
              stands_taken c given new (unbooked_in (λ p. (begun_by task input s).parts) s) task slot coroutine stands_given there its within same items;
          called = ap (λ (x : RunState X). x.parts.called) same ∙ given_calls slot.resume_point v ∙ ap (λ (x : View). x.called) frame;
          running = ap (λ (x : RunState X). x.parts.running) same ∙ given_runs slot.resume_point v ∙ ap (λ (x : View). x.running) frame;
        };
        request = (called_asking task c body s h).asked;
        asked = called_asked task c body s h input;
        leaving = called_leaving task c body s h input;
        opened = called_opened task c body s h input;
      };
      heard =
          input_kept h.stands.name_map body.parts s.loop.parts h.stands.keeps task input
          ∙ given_up_heard (generator_of task s).resume_point task input s.loop.parts;
      decides = stood_decides stands_begun.name_map begun.loop.parts (named_in a s) task slot.resume_point (generator_of task s).resume_point stood_at;
    }

    -- by what taking the coroutine out leaves, and then giving up
    pub begins_as : (taken new : RunState X) → taken ≡ record body { parts = v; slots = taken.slots }
        → taken.slots.items ≡ slice_set body.slots.items task no_slot → new ≡ record taken { parts = given_up_in slot.resume_point taken.parts }
        → HasBegun task input c s (record { coroutine = coroutine; resume_point = slot.resume_point; input = (begin_step task input (parts body.parts)).input })
        new
    begins_as taken new frame items gives =
        begins_so new (whole ∙ ap (λ x. record body { parts = given_up_in slot.resume_point v; slots = x }) (sym (ap (λ (b : RunState X). b.slots) whole)))
        (ap (λ (b : RunState X). b.slots.items) gives ∙ items)
      where
        whole : new ≡ record body { parts = given_up_in slot.resume_point v; slots = taken.slots }
        whole = gives ∙ ap (λ (b : RunState X). record b { parts = given_up_in slot.resume_point b.parts }) frame
