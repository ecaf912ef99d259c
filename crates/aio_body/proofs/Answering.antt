-- What is stood for, and is sound, is so whatever the outside has left to answer.
use Rattle.std.proofs.Common.{ℕ, List, ◌++◌, Option, None, refl, ap}
use Rattle.std.proofs.Math.Logic.{∥∥₁_map}
use Rattle.model_value.specs.Action.{Action}
use Rattle.model_value.specs.Request.{Request}
use Rattle.model_wire.specs.Journal.{Entry}
use Rattle.model_machine.specs.Extra.{Extra}
use Rattle.model_machine.specs.Sound.{IsSoundBut, IsStateSound}
use Rattle.model_machine.specs.State as resume_point
use Rattle.model_machine.specs.State.{State}
use Rattle.law_replies.specs.InStep.{IsAsked, IsStepSound}
use Rattle.aio_wire.specs.Outside.{Outside}
use Rattle.aio_wire.specs.Port.{Ported}
use Rattle.aio_exchange.specs.Exchanged.{Exchange, entries_of}
use Rattle.aio_extra.specs.Added.{Added}
use Rattle.aio_body.specs.declared.run_state.RunState.{RunState}
use Rattle.aio_body.specs.Asked.{IsAskingFor, IsDeciding, IsGoing, IsInStep}
use Rattle.aio_body.specs.Stands.{IsBetween, Context, Stands}
use Rattle.aio_body.specs.Taken.{IsNext, IsTaken}
use Rattle.aio_body.proofs.Asking.{HasCome}
use Rattle.aio_body.specs.Answers.{with_answers, with_rest}

-- ---- in the machine
module _ {S : Type 0} (added : Extra S) (answers : List Entry) (s : State S) where
  abbrev now : State S
  now = with_answers answers s

  pub sound_again : (running excused : Option ℕ) → IsSoundBut running excused added s → IsSoundBut running excused added now
  sound_again running excused h = record {
    loop = h.loop;
    generators = h.generators;
    asking = λ task l e. let it = h.asking task l e in record { asked = it.asked; says = it.says; stands = it.stands };
    unbegun = h.unbegun;
    main_over = h.main_over;
    main_told = h.main_told;
    resume_point = λ task l e. let it = h.resume_point task l e in
        record { sleeping = it.sleeping; leaving = it.leaving; leaving_now = it.leaving_now; opened = it.opened };
    exits = h.exits;
    blocks = record { timeouts = h.blocks.timeouts; groups = h.blocks.groups; entered = h.blocks.entered; own = h.blocks.own };
    streams = h.streams;
    kept_once = h.kept_once;
    futures = record { plain = h.futures.plain; once = h.futures.once; apart = h.futures.apart };
    made = record { arguments = h.made.arguments; tape = h.made.tape; outcomes = h.made.outcomes };
    kept = h.kept;
    keys = h.keys;
  }

  pub state_again : IsStateSound added s → IsStateSound added now
  state_again h = sound_again None None h

  pub step_again : (task : ℕ) → IsStepSound added task s → IsStepSound added task now
  step_again task h = record { others = sound_again _ _ h.others; resume_point = h.resume_point; begun = h.begun; exits = h.exits }

  pub asked_again : (task : ℕ) (stood : resume_point.ResumePoint) (asked : Request) → IsAsked added task stood asked s → IsAsked added task stood asked now
  asked_again task stood asked h = record { others = sound_again _ _ h.others; resume_point = h.resume_point; says = h.says; exits = h.exits; alone = h.alone }

-- ---- in code
module _ {X : Type 0} {a : Added X} (answers : List Entry) (c : Context a) (body : RunState X) (s : State a.Kept) where
  abbrev pub stands_again : (out : Option ℕ) → Stands out c body s → Stands out (with_rest answers c) body (with_answers answers s)
  stands_again out h = record {
    name_map = h.name_map;
    code = h.code;
    profile = h.profile;
    keeps = h.keeps;
    left = h.left;
    bar = h.bar;
    blocks = h.blocks;
    made = h.made;
    told = h.told;
    few = h.few;
    held = λ task l. let has = h.held task l in record {
      slot = has.slot;
      found = has.found;
      right = record { waits = has.right.waits; resume_point = has.right.resume_point };
    };
    gone = h.gone;
    futures = h.futures;
    few_futures = h.few_futures;
    main_done = h.main_done;
    transports = h.transports;
    time = h.time;
    counts = h.counts;
    events = h.events;
    rest = refl;
    extra = h.extra;
    count = h.count;
  }

  pub between_again : IsBetween c body s → IsBetween (with_rest answers c) body (with_answers answers s)
  between_again h = record {
    stands = stands_again None h.stands;
    called = h.called;
    running = h.running;
    sound = state_again a.meaning answers s h.sound;
  }

  abbrev pub in_step_again : (task : ℕ) → IsInStep task c body s → IsInStep task (with_rest answers c) body (with_answers answers s)
  in_step_again task h = record { stands = stands_again _ h.stands; called = h.called; running = h.running }

  pub going_again : (task : ℕ) → IsGoing task c body s → IsGoing task (with_rest answers c) body (with_answers answers s)
  going_again task h = record { in_step = in_step_again task h.in_step; sound = step_again a.meaning answers s task h.sound }

  pub asking_again : (task : ℕ) (request : Request) → IsAskingFor task request c body s
      → IsAskingFor task request (with_rest answers c) body (with_answers answers s)
  asking_again task request h = record { going = going_again task h.going; says = h.says }

  pub deciding_again : (task : ℕ) (stood : resume_point.ResumePoint) → IsDeciding task stood c body s
      → IsDeciding task stood (with_rest answers c) body (with_answers answers s)
  deciding_again task stood h = record {
    in_step = in_step_again task h.in_step;
    request = h.request;
    asked = asked_again a.meaning answers s task stood h.request h.asked;
    leaving = h.leaving;
    opened = h.opened;
  }

  pub next_again : (action : Action) → IsNext action c body s → IsNext action (with_rest answers c) body (with_answers answers s)
  next_again action h = record {
    before = with_answers answers h.before;
    handle = h.handle;
    rest = h.rest;
    pending = h.pending;
    live = h.live;
    runs = h.runs;
    sound = state_again a.meaning answers h.before h.sound;
    after = ap (with_answers answers) h.after;
    stands = stands_again None h.stands;
    called = h.called;
    running = h.running;
  }

  pub taken_again : (action : Action) → IsTaken action c body s → IsTaken action (with_rest answers c) body (with_answers answers s)
  taken_again action h = record {
    before = with_answers answers h.before;
    handle = h.handle;
    rest = h.rest;
    pending = h.pending;
    live = h.live;
    runs = h.runs;
    sound = state_again a.meaning answers h.before h.sound;
    after = ap (with_answers answers) h.after;
    stands = stands_again None h.stands;
    called = h.called;
    running = h.running;
  }

-- ---- what is possible
-- What is possible wherever a call began is so after some asks of it.
pub alive_come : {X W At : Type 0} {a : Added X} (o : Outside W) (from : Context a → At → Type 0)
    → ((answers : List Entry) (c : Context a) (at : At) → from c at → (other : At) × from (with_rest answers c) other)
    → (had : List Exchange) (old mid : Ported W) (so : Context a → At → Type 0) → HasCome o from had old mid so
    → ∥ ((c : Context a) × ((at : At) × from c at)) ∥₁ → ∥ ((c : Context a) × ((at : At) × so c at)) ∥₁
alive_come o from again had old mid so come may =
    ∥∥₁_map may (λ w.
    let it = again (entries_of had ++ w.0.answers) w.0 w.1.0 w.1.1 in
    (w.0, (it.0, (come.told w.0 it.0 it.1).1)))
