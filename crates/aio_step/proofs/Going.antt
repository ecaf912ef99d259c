-- The coroutine says on until the step ends.
use Rattle.std.proofs.Common.{◌≡◌, ℕ, ◌<◌, Bool, true, false, List, [], ◌++◌, Ok, Err, length, ◌∙◌, refl, sym, ap, subst}
use Rattle.std.proofs.Math.Logic.{∥∥₁_elim, ∥∥₁_map}
use Rattle.std.specs.Coded.{le_prop}
use Rattle.model_value.specs.Input.{Input}
use Rattle.model_says.specs.Says.{step_limit}
use Rattle.model_wire.specs.declared.event.End.TheVariants as end
use Rattle.model_machine.specs.Sound.{IsStateSound}
use Rattle.model_machine.specs.State.{State, resumed}
use Rattle.model_machine.specs.Step.{serve_all}
use Rattle.model_machine.specs.Went.{Went, Goes, Stops}
use Rattle.aio_wire.specs.EventList.{EventList}
use Rattle.aio_wire.specs.Outside.{Outside}
use Rattle.aio_wire.specs.Port.{ported}
use Rattle.aio_wire.specs.declared.stop.Stop.{Stop}
use Rattle.aio_wire.specs.declared.stop.Stop.TheVariants as stop
use Rattle.aio_exchange.proofs.Among.{told_none}
use Rattle.aio_exchange.specs.Among.{AreTold}
use Rattle.aio_exchange.specs.Exchanged.{All, Exchange}
use Rattle.aio_gen.specs.declared.generator.Gen.{Gen}
use Rattle.aio_extra.specs.Added.{Added}
use Rattle.aio_body.specs.declared.run_state.RunState.{RunState}
use Rattle.aio_body.proofs.Asking.{HasCome, come_beside, come_none, come_then, comes_ends, comes_starved, comes_stops}
use Rattle.aio_body.specs.Asked.{HasSuspended}
use Rattle.aio_body.specs.Asking.{Comes, WentBegins}
use Rattle.aio_body.specs.Slots.{put_back}
use Rattle.aio_body.specs.Stands.{Context, IsBetween, holding, Possible}
use Rattle.aio_body.proofs.Answering.{alive_come, in_step_again, step_again}
use Rattle.aio_body.proofs.Slotting.{set_length, stands_back}
use Rattle.aio_body.specs.Answers.{with_answers, with_rest}
use Rattle.model_wire.specs.Journal.{Entry}
use Rattle.aio_step.specs.declared.steps.Stepped.{Stepped}
use Rattle.aio_step.specs.declared.steps.Stepped.TheVariants as went
use Rattle.aio_step.specs.Serving.{serving_once}
use Rattle.aio_step.specs.declared.steps.Served.TheVariants.{Answered, Suspends, Ended}
use Rattle.aio_step.specs.Stepping.{IsServing, TaskSteps, serving_on}
use Rattle.aio_step.proofs.Resuming.{its_inside}
use Rattle.aio_step.proofs.Serving.{LeadsTo, leads_begin, leads_end, leads_on, leads_same, once_begins}

module _ {X : Type 0} {a : Added X} where
  -- the task's step has ended, and its coroutine is put back
  pub back : (task : ℕ) (c : Context a) (old new : RunState X) (coroutine : Gen) (s : State a.Kept) → HasSuspended task (holding coroutine c) old s
      → IsStateSound a.meaning s → new ≡ record old { slots = new.slots } → new.slots.items ≡ put_back task coroutine old.slots.items
      → IsBetween c new s
  back task c old new coroutine s suspended sound frame items = record {
    stands = stands_back c old new s task coroutine suspended.stands frame items;
    called = ap (λ (x : RunState X). x.parts.called) frame ∙ suspended.called;
    running = ap (λ (x : RunState X). x.parts.running) frame ∙ suspended.running;
    sound = sound;
  }

  -- whatever the outside has left to answer
  pub serving_again : (answers : List Entry) (task : ℕ) (fresh : Bool) (input : Input) (coroutine : Gen) (c : Context a) (body : RunState X) (s : State a.Kept)
      → IsServing task fresh input coroutine c body s → IsServing task fresh input coroutine (with_rest answers c) body (with_answers answers s)
  serving_again answers task fresh input coroutine c body s h = record {
    in_step = in_step_again answers (holding coroutine c) body s task h.in_step;
    sound = step_again a.meaning answers (resumed fresh task input s) task h.sound;
  }

  -- After some answers the step of the task, which began with `s`, goes on with this input.
  pub record IsOn (task : ℕ) (first : Input) (s : State a.Kept) (fresh : Bool) (input : Input) (c : Context a) (body : RunState X) (coroutine : Gen) : Type 0
    where
      pub now : State a.Kept
      pub serving : IsServing task fresh input coroutine c body now
      pub within : task < length (resumed true task first s).generators
      pub leads : LeadsTo a.meaning task (resumed true task first s) (resumed fresh task input now)

  -- it has come to its end, and its coroutine isn't put back yet
  pub record HasCeased (task : ℕ) (first : Input) (s : State a.Kept) (c : Context a) (body : RunState X) (coroutine : Gen) : Type 0 where
    pub now : State a.Kept
    pub suspended : HasSuspended task (holding coroutine c) body now
    pub made : task < length now.generators
    pub sound : IsStateSound a.meaning now
    pub goes : serve_all step_limit a.meaning task (resumed true task first s) ≡ Goes now

-- the same, with whatever state it began, after some asks
abbrev pub AreOn : {X W : Type 0} → (a : Added X) → Outside W → (task : ℕ) (first : Input) (old : RunState X) (start : Gen) (was : W) (fresh : Bool)
    (input : Input) (body : RunState X) (coroutine : Gen) (is : W) → Type 0
AreOn a o task first old start was fresh input body coroutine is =
    (had : List Exchange)
    × HasCome {At = State a.Kept} {a = a} o (λ c s. IsServing task true first start c old s) had (ported was old.events) (ported is body.events)
    (λ c s. IsOn task first s fresh input c body coroutine)

module _ {X W : Type 0} (a : Added X) (o : Outside W) (task : ℕ) (first : Input) (old : RunState X) (start : Gen) (was : W) where
  abbrev From : Context a → State a.Kept → Type 0
  From c s = IsServing task true first start c old s

  -- what the whole does
  abbrev does : State a.Kept → Went a.Kept
  does s = serve_all step_limit a.meaning task (resumed true task first s)

  pub on_first : AreOn a o task first old start was true first old start was
  on_first = (
    [],
    come_none o From (ported was old.events) (ported was old.events) (λ c s. IsOn task first s true first c old start) refl
        (λ c s h. (
          told_none old.events.events,
          record {
            now = s;
            serving = h;
            within = subst (λ n. task < n) (sym (set_length task _ s)) (its_inside task true first c old start s h);
            leads = leads_same a.meaning task (resumed true task first s);
          },
        )),
  )

  module _ (fresh : Bool) (input : Input) (body : RunState X) (coroutine : Gen) (mid : W)
      (on : AreOn a o task first old start was fresh input body coroutine mid) where
    abbrev On : Context a → State a.Kept → Type 0
    On c s = IsOn task first s fresh input c body coroutine

    pub on_serve : Possible a (IsServing task true first start) old → Possible a (IsServing task fresh input coroutine) body
    on_serve may =
        ∥∥₁_map
        (alive_come o From (λ answers c s h. (with_answers answers s, serving_again answers task true first start c old s h)) on.0 (ported was old.events)
        (ported mid body.events) On on.1 may) (λ w. (w.0, (w.1.1.now, w.1.1.serving)))

    -- memory is refused
    pub on_starved : (new : RunState X) → Comes o (serving_on a task first start old new) (ported was old.events) (ported mid new.events) (Err stop.Memory)
    on_starved new =
        comes_starved o (serving_on a task first start old new) on.0 (ported was old.events) (ported mid body.events) (ported mid new.events) refl
        (record {
          exchanged = on.1.exchanged;
          told = λ c s h.
              let t = on.1.told c s h in (
                t.0,
                leads_begin a.meaning task (resumed true task first s) (resumed fresh task input t.1.now) t.1.leads t.1.within (c.past ++ body.events.events)
                    (once_begins a.meaning task (resumed fresh task input t.1.now) (c.past ++ body.events.events) t.1.serving.in_step.stands.events),
              );
        })

    module _ (new : RunState X) (after : Gen) (is : W) where
      pub on_next : (next : Input)
          → Comes o (serving_once a task fresh input coroutine after body new) (ported mid body.events) (ported is new.events) (Ok (Answered next))
          → AreOn a o task first old start was false next new after is
      on_next next once =
          come_then o From on.0 (ported was old.events) (ported mid body.events) (serving_once a task fresh input coroutine after body new)
          (ported is new.events) On (λ c s. IsOn task first s false next c new after) (Answered next) on.1 once (λ more c s t. (
            t.now,
            (
              t.serving,
              λ g. record {
                now = g.now;
                serving = g.serving;
                within = t.within;
                leads = leads_on a.meaning task (resumed true task first s) (resumed fresh task input t.now) (resumed false task next g.now) t.leads g.goes;
              },
            ),
          ))

      pub on_stop : (why : Stop)
          → Comes o (serving_once a task fresh input coroutine after body new) (ported mid body.events) (ported is new.events) (Err why)
          → Comes o (serving_on a task first start old new) (ported was old.events) (ported is new.events) (Err why)
      on_stop why once =
          comes_stops o From on.0 (ported was old.events) (ported mid body.events) (serving_once a task fresh input coroutine after body new)
          (ported is new.events) (does, (Stops, (λ c went it. TaskSteps c new went it, WentBegins))) why
          (record {
            exchanged = on.1.exchanged;
            told = λ c s h.
                let t = on.1.told c s h in (
                  t.0,
                  (
                    t.1.now,
                    (
                      t.1.serving,
                      (
                        λ how last e.
                            leads_end a.meaning task (resumed true task first s) (resumed fresh task input t.1.now) (Stops how last) t.1.leads
                            (λ go_on. ap (λ (f : (State a.Kept → Went a.Kept) → Went a.Kept). f go_on) e) t.1.within,
                        leads_begin a.meaning task (resumed true task first s) (resumed fresh task input t.1.now) t.1.leads t.1.within,
                      ),
                    ),
                  ),
                );
          }) once

      pub on_goes : Comes o (serving_once a task fresh input coroutine after body new) (ported mid body.events) (ported is new.events) (Ok (Ended went.Goes))
          → Comes o (serving_on a task first start old new) (ported was old.events) (ported is new.events) (Ok went.Goes)
      on_goes once =
          let all = come_then o From on.0 (ported was old.events) (ported mid body.events) (serving_once a task fresh input coroutine after body new)
          (ported is new.events) On (λ c s. TaskSteps c new went.Goes (does s)) (Ended went.Goes) on.1 once (λ more c s t. (
            t.now,
            (
              t.serving,
              λ e. subst (TaskSteps c new went.Goes)
                  (sym (leads_end a.meaning task (resumed true task first s) (resumed fresh task input t.now) (Goes e.now) t.leads e.goes t.within))
                  e.between,
            ),
          )) in
          comes_ends o (serving_on a task first start old new) all.0 (ported was old.events) (ported is new.events) went.Goes all.1

      pub on_runaway : (other : ℕ)
          → Comes o (serving_once a task fresh input coroutine after body new) (ported mid body.events) (ported is new.events)
          (Ok (Ended (went.Runaway other)))
          → Comes o (serving_on a task first start old new) (ported was old.events) (ported is new.events) (Ok (went.Runaway other))
      on_runaway other once =
          let all = come_then o From on.0 (ported was old.events) (ported mid body.events) (serving_once a task fresh input coroutine after body new)
          (ported is new.events) On (λ c s. TaskSteps c new (went.Runaway other) (does s)) (Ended (went.Runaway other)) on.1 once (λ more c s t. (
            t.now,
            (
              t.serving,
              λ e. subst (TaskSteps c new (went.Runaway other))
                  (sym (leads_end a.meaning task (resumed true task first s) (resumed fresh task input t.now) (Stops (end.Runaway task) e.1.last)
                  t.leads e.1.goes t.within))
                  (ap end.Runaway (sym e.0), e.1.told),
            ),
          )) in
          comes_ends o (serving_on a task first start old new) all.0 (ported was old.events) (ported is new.events) (went.Runaway other) all.1

      -- the step ended or ran away
      pub on_end : (said : Stepped)
          → Comes o (serving_once a task fresh input coroutine after body new) (ported mid body.events) (ported is new.events) (Ok (Ended said))
          → Comes o (serving_on a task first start old new) (ported was old.events) (ported is new.events) (Ok said)
      on_end went.Goes once = on_goes once
      on_end (went.Runaway other) once = on_runaway other once

      -- or the task waits
      module _ (once : Comes o (serving_once a task fresh input coroutine after body new) (ported mid body.events) (ported is new.events) (Ok Suspends)) where
        ceased : (had : List Exchange)
            × HasCome o From had (ported was old.events) (ported is new.events) (λ c s. HasCeased task first s c new after)
        ceased =
            come_then o From on.0 (ported was old.events) (ported mid body.events) (serving_once a task fresh input coroutine after body new)
            (ported is new.events) On (λ c s. HasCeased task first s c new after) Suspends on.1 once (λ more c s t. (
              t.now,
              (
                t.serving,
                λ r. record {
                  now = r.now;
                  suspended = r.suspended;
                  made = r.made;
                  sound = r.sound;
                  goes = leads_end a.meaning task (resumed true task first s) (resumed fresh task input t.now) (Goes r.now) t.leads r.goes t.within;
                },
              ),
            ))

        pub suspends_there : Possible a (IsServing task true first start) old → task < length new.slots.items
        suspends_there may =
            ∥∥₁_elim
            (alive_come o From (λ answers c s h. (with_answers answers s, serving_again answers task true first start c old s h)) ceased.0
            (ported was old.events) (ported is new.events) (λ c s. HasCeased task first s c new after) ceased.1 may) le_prop
            (λ w. subst (λ n. task < n) (w.1.1.suspended.stands.told ∙ sym w.1.1.suspended.stands.made) w.1.1.made)

        pub on_suspend : (last : RunState X) → last ≡ record new { slots = last.slots } → last.slots.items ≡ put_back task after new.slots.items
            → Comes o (serving_on a task first start old last) (ported was old.events) (ported is last.events) (Ok went.Goes)
        on_suspend last frame items =
            comes_ends o (serving_on a task first start old last) ceased.0 (ported was old.events) (ported is last.events) went.Goes
            (come_beside o From ceased.0 (ported was old.events) (ported is new.events) (ported is last.events)
            (λ c s. HasCeased task first s c new after) (λ c s. TaskSteps c last went.Goes (does s)) ceased.1 refl
            (λ c s r. (
              subst (λ (l : EventList). AreTold [] All new.events.events l.events) (sym (ap (λ (x : RunState X). x.events) frame))
                  (told_none new.events.events),
              subst (TaskSteps c last went.Goes) (sym r.goes) (back task c new last after r.now r.suspended r.sound frame items),
            )))
