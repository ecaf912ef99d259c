-- A coroutine is resumed, and what it says is served.
use Rattle.std.proofs.Common.{◌≡◌, ℕ, ◌<◌, Bool, true, List, [], ◌∷◌, ◌++◌, Some, None, Result, length, ◌∙◌, refl, sym, ap, subst}
use Rattle.model_value.specs.Input.{Input}
use Rattle.model_value.specs.Request.{Request}
use Rattle.model_value.specs.Value.{Value, Exc}
use Rattle.model_tree.specs.Syntax.{Program}
use Rattle.model_says.specs.Endings.{Saying, Asks, Runaway, saying_of}
use Rattle.model_says.specs.Says.{course, says, step_limit}
use Rattle.model_says.specs.Tape.{Tape}
use Rattle.model_loop.specs.Loop.{in_parts}
use Rattle.model_loop.specs.Tasks.{finish, lives, next_task}
use Rattle.model_machine.specs.Sound.{IsStateSound}
use Rattle.model_machine.specs.State.{Generator, State, generator_of, resumed, unbooked_in}
use Rattle.model_machine.specs.Step.{says_of, served}
use Rattle.model_machine.specs.Went.{Went, Goes}
use Rattle.law_steps.proofs.Waiting.{task_there}
use Rattle.law_cancel.proofs.Lookups.{get_within}
use Rattle.aio_cancel.specs.Awaitables.{Appended}
use Rattle.aio_flat.specs.Code.{IsCodeOf}
use Rattle.aio_task.specs.View.{View, parts}
use Rattle.aio_extra.specs.Added.{Added, named_in}
use Rattle.aio_body.specs.declared.run_state.RunState.{RunState}
use Rattle.aio_gen.specs.declared.generator.Gen.{Gen}
use Rattle.aio_body.specs.Asked.{IsAskingFor}
use Rattle.aio_gen.specs.Gens.{GenStandsFor}
use Rattle.aio_body.specs.Stands.{Context, holding}
use Rattle.aio_step.specs.Serving.{EndsAt, RunsAway, serves_once}
use Rattle.aio_step.specs.Stepping.{IsServing}
use Rattle.refine_parts.proofs.Calls.{kept_finish}
use Rattle.aio_body.proofs.Sound.{runs_living}
use Rattle.aio_body.proofs.Left.{finish_done, leaves_finish}
use Rattle.aio_body.proofs.Lasting.{spares_none, stands_on}
use Rattle.aio_body.proofs.Rooms.{below_appended}
use Rattle.aio_body.proofs.Slotting.{set_same, stands_resumed, stands_over, stands_dead, stood}

module _ {X : Type 0} {a : Added X} (task : ℕ) (fresh : Bool) (input : Input) (c : Context a) (body : RunState X) (before : Gen) (s : State a.Kept)
    (h : IsServing task fresh input before c body s) where
  its_lives : lives s.loop.parts task ≡ true
  its_lives = runs_living a.meaning task (resumed fresh task input s) h.sound

  its_within : task < next_task s.loop.parts
  its_within = let it = task_there s.loop.parts task its_lives in get_within s.loop.parts.tasks task it.0 it.1

  its_stood : GenStandsFor s.program body.code (generator_of task s).coroutine (generator_of task s).arguments (generator_of task s).tape before
  its_stood = stood c body s task before h.in_step.stands its_lives

  pub its_inside : task < length s.generators
  its_inside = subst (λ n. task < n) (sym h.in_step.stands.told) its_within

  -- what the coroutine says
  pub says_out : (out : Saying)
      → ((program : Program) (coroutine : ℕ) (arguments : List Value) (tape : Tape) → IsCodeOf program body.code
      → GenStandsFor program body.code coroutine arguments tape before
      → says program coroutine arguments (tape ++ record { input = input; fresh = fresh } ∷ []) ≡ out)
      → says_of step_limit a.meaning task (resumed fresh task input s) ≡ out
  says_out out said =
      ap (λ (g : Generator). saying_of (course step_limit s.program g.coroutine g.arguments g.tape)) (set_same task (record (generator_of task s) {
        tape = (generator_of task s).tape ++ record { input = input; fresh = fresh } ∷ [];
      }) s its_inside)
      ∙ said s.program (generator_of task s).coroutine (generator_of task s).arguments (generator_of task s).tape h.in_step.stands.code its_stood

  -- it asks
  pub asks_out : (now : Gen) (request : Request)
      → says_of step_limit a.meaning task (resumed fresh task input s) ≡ Asks request
      → ((program : Program) (coroutine : ℕ) (arguments : List Value) (tape : Tape) → IsCodeOf program body.code
      → GenStandsFor program body.code coroutine arguments tape before
      → GenStandsFor program body.code coroutine arguments (tape ++ record { input = input; fresh = fresh } ∷ []) now)
      → IsAskingFor task request (holding now c) body (resumed fresh task input s)
  asks_out now request asks goes = record {
    going = record {
      in_step = record {
        stands =
            stands_resumed c body s task fresh input before now h.in_step.stands its_within
            (goes s.program (generator_of task s).coroutine (generator_of task s).arguments (generator_of task s).tape h.in_step.stands.code);
        called = h.in_step.called;
        running = h.in_step.running;
      };
      sound = h.sound;
    };
    says = asks;
  }

  -- it ends, and the task is done
  pub ends_out : (end : Result Value Exc) (v : View)
      → ((go_on : State a.Kept → Went a.Kept)
      → served step_limit a.meaning (says_of step_limit a.meaning task (resumed fresh task input s)) task go_on (resumed fresh task input s)
      ≡ Goes (unbooked_in (finish task end) (resumed fresh task input s)))
      → IsStateSound a.meaning (unbooked_in (finish task end) (resumed fresh task input s))
      → parts v ≡ finish task end (parts body.parts) → Appended body.parts.queue v.queue
      → v ≡ record body.parts { queue = v.queue; futures = v.futures; tasks = v.tasks; running = None }
      → EndsAt c (record body { parts = v }) (serves_once a.meaning task (resumed fresh task input s))
  ends_out end v goes sound became appended frame = record {
    now = unbooked_in (finish task end) (resumed fresh task input s);
    between = record {
      stands =
          stands_dead c (record body { parts = v }) (unbooked_in (finish task end) s) task (record (generator_of task s) {
            tape = (generator_of task s).tape ++ record { input = input; fresh = fresh } ∷ [];
          })
          (stands_over c (record body { parts = v }) (unbooked_in (finish task end) s) task before
          (stands_on None (Some task) (holding before c) body s v (in_parts (finish task end)) h.in_step.stands
          (kept_finish h.in_step.stands.name_map body.parts v s.loop.parts h.in_step.stands.keeps task end (record {
            parts = became;
            queue = appended;
            time = ap (λ (x : View). x.time) frame;
            schedule = ap (λ (x : View). x.schedule) frame;
          }))
          (leaves_finish task end s.loop.parts) (spares_none s.loop.parts (named_in a s)) (refl, (refl, refl)) (below_appended body.parts.queue v.queue appended)
          (ap (λ (x : View). x.profile) frame))
          (finish_done task end s.loop.parts))
          (finish_done task end s.loop.parts);
      called = ap (λ (x : View). x.called) frame ∙ h.in_step.called;
      running = ap (λ (x : View). x.running) frame;
      sound = sound;
    };
    goes = goes;
  }

  -- it runs away
  pub runs_out : says_of step_limit a.meaning task (resumed fresh task input s) ≡ Runaway
      → RunsAway task c body (serves_once a.meaning task (resumed fresh task input s))
  runs_out says = record {
    last = resumed fresh task input s;
    told = h.in_step.stands.events;
    goes = λ go_on. ap (λ saying. served step_limit a.meaning saying task go_on (resumed fresh task input s)) says;
  }
