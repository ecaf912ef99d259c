-- A whole step: it begins, and goes on by what its input means.
use Rattle.std.proofs.Common.{◌≡◌, ℕ, ◌<◌, true, List, [], Result, Ok, Err, append-nil, length, refl, sym, ap, subst}
use Rattle.std.proofs.Math.Logic.{∥∥₁_elim, ∥∥₁_map}
use Rattle.std.specs.Coded.{le_prop}
use Rattle.model_value.specs.Input.{Input}
use Rattle.model_says.specs.Says.{step_limit}
use Rattle.model_wire.specs.Journal.{Entry}
use Rattle.model_machine.specs.Replies as reply
use Rattle.model_machine.specs.State as plain
use Rattle.model_machine.specs.State.{State, generator_of, resumed}
use Rattle.model_machine.specs.Step.{step, serve_all}
use Rattle.model_machine.specs.Went.{Stops}
use Rattle.aio_wire.specs.EventList.{EventList}
use Rattle.aio_wire.specs.Outside.{Outside}
use Rattle.aio_wire.specs.Port.{ported}
use Rattle.aio_wire.specs.declared.stop.Stop.{Stop}
use Rattle.aio_exchange.proofs.Among.{told_none}
use Rattle.aio_exchange.specs.Among.{AreTold}
use Rattle.aio_exchange.specs.Exchanged.{All, Exchange}
use Rattle.aio_extra.specs.Added.{Added}
use Rattle.aio_body.proofs.Asking.{HasCome, come_beside, come_none, come_then, comes_ends, comes_goes, comes_stops}
use Rattle.aio_body.specs.Asked.{Says}
use Rattle.aio_body.specs.Asking.{Comes, Piece, ReplyBegins, WentBegins, before}
use Rattle.aio_body.specs.declared.run_state.RunState.{RunState}
use Rattle.aio_body.specs.declared.reply.RequestReply.{RequestReply}
use Rattle.aio_body.specs.declared.reply.RequestReply.TheVariants as said
use Rattle.aio_body.specs.Slots.{put_back}
use Rattle.aio_body.specs.Stands.{Context, holding, Possible}
use Rattle.aio_body.proofs.Answering.{alive_come, state_again, stands_again}
use Rattle.aio_body.proofs.Growing.{all_adds, taken_begins}
use Rattle.aio_body.proofs.Over.{comes_over, over}
use Rattle.aio_body.proofs.Unasked.{told_so}
use Rattle.aio_body.specs.Answers.{with_answers, with_rest}
use Rattle.aio_step.specs.declared.steps.Started.{Started}
use Rattle.aio_step.specs.declared.steps.Stepped.{Stepped}
use Rattle.aio_step.specs.declared.steps.Stepped.TheVariants as went
use Rattle.aio_step.specs.Stepping.{HasBegun, HearsMade, IsCalled, IsServing, TaskSteps, begun_in, deciding, serving_on, stepping}
use Rattle.aio_step.proofs.First.{Resumes, WaitsOn, decided, made_first, suspends_first, stops_first}
use Rattle.aio_step.proofs.Going.{back}

-- whatever the outside has left to answer
pub called_again : {X : Type 0} {a : Added X} (answers : List Entry) (task : ℕ) (c : Context a) (body : RunState X) (s : State a.Kept) → IsCalled task c body s
    → IsCalled task (with_rest answers c) body (with_answers answers s)
called_again {a = a} answers task c body s h = record {
  before = with_answers answers h.before;
  handle = h.handle;
  rest = h.rest;
  pending = h.pending;
  live = h.live;
  steps = h.steps;
  sound = state_again a.meaning answers h.before h.sound;
  after = ap (with_answers answers) h.after;
  stands = stands_again answers c body s _ h.stands;
  called = h.called;
  running = h.running;
}

module _ {X W : Type 0} (a : Added X) (o : Outside W) (task : ℕ) (input : Input) (old : RunState X) (made : HearsMade input old)
    (started : Started) (begun : RunState X) (b : (c : Context a) (s : State a.Kept) → IsCalled task c old s → HasBegun task input c s started begun)
    (was : W) (new : RunState X) (mid : W) where
  abbrev From : Context a → State a.Kept → Type 0
  From c s = IsCalled task c old s

  -- the step has begun
  abbrev Begun : Context a → State a.Kept → Type 0
  Begun c s = IsCalled task c old s × HasBegun task input c s started begun

  begins : HasCome o From [] (ported was old.events) (ported was begun.events) Begun
  begins =
      come_none o From (ported was old.events) (ported was begun.events) Begun refl (λ c s h. let it = b c s h in (
        told_so c.past old.events.events begun.events.events s.events s.events h.stands.events it.deciding.in_step.stands.events
            ([], sym (append-nil s.events)) refl,
        (h, it),
      ))

  abbrev decides_so : Piece a (State a.Kept × plain.ResumePoint) (reply.RequestReply a.Kept) RequestReply
  decides_so = over (holding started.coroutine) (deciding a task started.resume_point started.input begun new)

  held : (result : Result RequestReply Stop)
      → Comes o (deciding a task started.resume_point started.input begun new) (ported was begun.events) (ported mid new.events) result
      → Comes o decides_so (ported was begun.events) (ported mid new.events) result
  held result decides =
      comes_over o (holding started.coroutine) (record { answers = λ es c. refl; rest = λ c. refl; past = λ c. refl })
      (deciding a task started.resume_point started.input begun new) (ported was begun.events) (ported mid new.events) result decides

  -- ---- its input was not decided, and the whole stops
  pub decides_stop : (why : Stop)
      → Comes o (deciding a task started.resume_point started.input begun new) (ported was begun.events) (ported mid new.events) (Err why)
      → Comes o (stepping a task input old new) (ported was old.events) (ported mid new.events) (Err why)
  unfolding step
  decides_stop why decides =
      comes_stops o From [] (ported was old.events) (ported was begun.events) decides_so (ported mid new.events)
      (step step_limit a.meaning task input, (Stops, (λ c went it. TaskSteps c new went it, WentBegins))) why
      (record {
        exchanged = begins.exchanged;
        told = λ c s h.
            let t = begins.told c s h in (
              t.0,
              (
                (begun_in task input s, (generator_of task s).resume_point),
                (
                  (t.1.1.deciding, t.1.1.decides),
                  (
                    λ how last e.
                        stops_first task (serve_all step_limit a.meaning task) how last (decided a.meaning task input s)
                        (subst
                        (λ x. reply.decides a.meaning (generator_of task s).resume_point task x (begun_in task input s) ≡ reply.Halts how last) t.1.1.heard e),
                    λ events begins.
                        taken_begins events (decided a.meaning task input s) true task (serve_all step_limit a.meaning task)
                        (all_adds step_limit a.meaning task)
                        (subst (λ x. ReplyBegins events (reply.decides a.meaning (generator_of task s).resume_point task x (begun_in task input s))) t.1.1.heard
                        begins),
                  ),
                ),
              ),
            );
      }) (held (Err why) decides)

  -- ---- the coroutine is resumed
  module _ (it : RequestReply) (next : Input)
      (resumes : (c d : Context a) (s : State a.Kept) → IsCalled task c old s → HasBegun task input c s started begun
      → Says task (holding started.coroutine d) new it (reply.decides a.meaning (generator_of task s).resume_point task started.input (begun_in task input s))
      → Resumes task next d new started.coroutine (decided a.meaning task input s))
      (decides : Comes o (deciding a task started.resume_point started.input begun new) (ported was begun.events) (ported mid new.events) (Ok it)) where
    abbrev Gone : Context a → State a.Kept → Type 0
    Gone c s = Resumes task next c new started.coroutine (decided a.meaning task input s)

    gone : (had : List Exchange) × HasCome o From had (ported was old.events) (ported mid new.events) Gone
    gone =
        come_then o From [] (ported was old.events) (ported was begun.events) decides_so (ported mid new.events) Begun Gone it begins
        (held (Ok it) decides) (λ more c s t. (
          (begun_in task input s, (generator_of task s).resume_point),
          ((t.1.deciding, t.1.decides), λ says. resumes (before more c) c s t.0 t.1 says),
        ))

    pub serve_of : Possible a (IsCalled task) old → Possible a (IsServing task true next started.coroutine) new
    serve_of may =
        ∥∥₁_map
        (alive_come o From (λ answers c s h. (with_answers answers s, called_again answers task c old s h)) gone.0 (ported was old.events)
        (ported mid new.events) Gone gone.1 may) (λ w. (w.0, (w.1.1.now, w.1.1.serving)))

    pub serves_on : (last : RunState X) (is : W) (result : Result Stepped Stop)
        → Comes o (serving_on a task next started.coroutine new last) (ported mid new.events) (ported is last.events) result
        → Comes o (stepping a task input old last) (ported was old.events) (ported is last.events) result
    unfolding step
    serves_on last is result serves =
        comes_goes o (stepping a task input old last) gone.0 (ported was old.events) (ported mid new.events)
        (λ c s. IsServing task true next started.coroutine c new s) (λ s. serve_all step_limit a.meaning task (resumed true task next s))
        (ported is last.events) result
        (record {
          exchanged = gone.1.exchanged;
          told = λ c s h. let t = gone.1.told c s h in (t.0, (t.1.now, (t.1.serving, t.1.goes (serve_all step_limit a.meaning task))));
        }) serves

  -- ---- or it waits on
  module _
      (decides : Comes o (deciding a task started.resume_point started.input begun new) (ported was begun.events) (ported mid new.events) (Ok said.Suspends))
    where
      abbrev Waits : Context a → State a.Kept → Type 0
      Waits c s = WaitsOn task (holding started.coroutine c) new (decided a.meaning task input s) × (task < length new.slots.items)

      waits : (had : List Exchange) × HasCome o From had (ported was old.events) (ported mid new.events) Waits
      waits =
          come_then o From [] (ported was old.events) (ported was begun.events) decides_so (ported mid new.events) Begun Waits said.Suspends begins
          (held (Ok said.Suspends) decides) (λ more c s t. (
            (begun_in task input s, (generator_of task s).resume_point),
            (
              (t.1.deciding, t.1.decides),
              λ says.
                  let w = suspends_first task input (before more c) old s t.0 made started begun t.1 c new says in
                  (w, made_first task input (before more c) old s t.0 made started begun t.1 c new w),
            ),
          ))

      pub waits_there : Possible a (IsCalled task) old → task < length new.slots.items
      waits_there may =
          ∥∥₁_elim
          (alive_come o From (λ answers c s h. (with_answers answers s, called_again answers task c old s h)) waits.0 (ported was old.events)
          (ported mid new.events) Waits waits.1 may) le_prop (λ w. w.1.1.1)

      pub waits_on : (last : RunState X) → last ≡ record new { slots = last.slots } → last.slots.items ≡ put_back task started.coroutine new.slots.items
          → Comes o (stepping a task input old last) (ported was old.events) (ported mid last.events) (Ok went.Goes)
      unfolding step
      waits_on last frame items =
          comes_ends o (stepping a task input old last) waits.0 (ported was old.events) (ported mid last.events) went.Goes
          (come_beside o From waits.0 (ported was old.events) (ported mid new.events) (ported mid last.events) Waits
          (λ c s. TaskSteps c last went.Goes (step step_limit a.meaning task input s)) waits.1 refl (λ c s w. (
            subst (λ (l : EventList). AreTold [] All new.events.events l.events) (sym (ap (λ (x : RunState X). x.events) frame)) (told_none new.events.events),
            subst (TaskSteps c last went.Goes) (sym (w.0.goes (serve_all step_limit a.meaning task)))
                (back task c new last started.coroutine w.0.now w.0.suspended w.0.sound frame items),
          )))
