-- What the coroutine says as it is resumed, and what comes of it.
use Rattle.std.proofs.Common.{◌≡◌, ℕ, ◌<◌, Bool, List, [], ◌∷◌, ◌++◌, Some, None, Result, Ok, Err, length, refl, ◌∙◌, sym, ap, subst}
use Rattle.std.proofs.Math.Logic.{∥∥₁_elim, ∥∥₁_map}
use Rattle.model_value.specs.Input.{Input}
use Rattle.model_value.specs.Request.{Request}
use Rattle.model_value.specs.Value.{Value, Exc}
use Rattle.model_tree.specs.Syntax.{Program}
use Rattle.model_says.specs.Endings as endings
use Rattle.model_says.specs.Says.{says, step_limit}
use Rattle.model_says.specs.Tape.{Tape}
use Rattle.model_loop.specs.Tasks.{finish}
use Rattle.model_machine.specs.Replies as plain
use Rattle.model_machine.specs.State.{State, resumed}
use Rattle.model_machine.specs.Step.{says_of, served}
use Rattle.aio_cancel.specs.Awaitables.{Appended}
use Rattle.aio_flat.specs.Code.{IsCodeOf}
use Rattle.aio_gen.specs.Gens.{GenStandsFor, saying_of_out}
use Rattle.aio_gen.specs.declared.generator.Gen.{Gen}
use Rattle.aio_gen.specs.declared.generator.GenOut.{GenOut}
use Rattle.aio_gen.specs.declared.generator.GenOut.TheVariants.{Asks, Returns, Raises, Runaway}
use Rattle.aio_task.specs.View.{View, parts}
use Rattle.aio_extra.specs.Added.{Added}
use Rattle.aio_body.specs.declared.run_state.RunState.{RunState}
use Rattle.aio_body.specs.declared.reply.RequestReply.{RequestReply}
use Rattle.aio_wire.specs.EventList.{EventList}
use Rattle.aio_wire.specs.Outside.{Outside}
use Rattle.aio_wire.specs.Port.{ported}
use Rattle.aio_wire.specs.declared.stop.Stop.{Stop}
use Rattle.aio_wire.specs.declared.stop.Stop.TheVariants as stop
use Rattle.aio_exchange.proofs.Among.{told_none}
use Rattle.aio_exchange.specs.Among.{AreTold}
use Rattle.aio_exchange.specs.Exchanged.{All}
use Rattle.aio_body.proofs.Asking.{HasCome, come_none, come_then, comes_ends, comes_stops, comes_without}
use Rattle.aio_body.specs.Asked.{IsAskingFor}
use Rattle.aio_body.specs.Asking.{Comes, Piece, before, serving}
use Rattle.aio_body.specs.Stands.{Context, holding, Possible}
use Rattle.aio_body.proofs.May.{same_prop}
use Rattle.aio_body.proofs.Over.{comes_over, over}
use Rattle.aio_body.proofs.Slotting.{set_length}
use Rattle.aio_body.proofs.Sound.{raised_sound, requests_sound, returned_sound}
use Rattle.aio_step.specs.Serving.{EndsAt, LeadsOn, OnwardBegins, RunsAway, halted, served_of, serves_once, serving_once}
use Rattle.aio_step.specs.declared.steps.Served.{Served}
use Rattle.aio_step.specs.Stepping.{IsServing}
use Rattle.aio_step.proofs.Resuming.{asks_out, ends_out, its_inside, runs_out, says_out}
use Rattle.aio_step.proofs.Serving.{answered, asks_begin, halts_so, once_begins}
use Rattle.aio_body.proofs.Sound.{extra_sound}

module _ {X : Type 0} {a : Added X} (task : ℕ) (fresh : Bool) (input : Input) (body : RunState X) (taken : Gen) where
  pub serve_idle : Possible a (IsServing task fresh input taken) body → body.parts.called ≡ None
  serve_idle may = ∥∥₁_elim may (same_prop body.parts.called None) (λ w. w.1.1.in_step.called)

  pub serve_runs : Possible a (IsServing task fresh input taken) body → body.parts.running ≡ Some task
  serve_runs may = ∥∥₁_elim may (same_prop body.parts.running (Some task)) (λ w. w.1.1.in_step.running)

  module _ (now : Gen) (out : GenOut)
      (said : (program : Program) (coroutine : ℕ) (arguments : List Value) (tape : Tape) → IsCodeOf program body.code
      → GenStandsFor program body.code coroutine arguments tape taken
      → says program coroutine arguments (tape ++ record { input = input; fresh = fresh } ∷ []) ≡ saying_of_out out)
      (stands : (program : Program) (coroutine : ℕ) (arguments : List Value) (tape : Tape) → IsCodeOf program body.code
      → GenStandsFor program body.code coroutine arguments tape taken → (request : Request) → out ≡ Asks request
      → GenStandsFor program body.code coroutine arguments (tape ++ record { input = input; fresh = fresh } ∷ []) now) where
    module _ (c : Context a) (s : State a.Kept) (h : IsServing task fresh input taken c body s) where
      says_so : says_of step_limit a.meaning task (resumed fresh task input s) ≡ saying_of_out out
      says_so = says_out task fresh input c body taken s h (saying_of_out out) said

      -- it asks
      says_asks : (request : Request) → out ≡ Asks request → says_of step_limit a.meaning task (resumed fresh task input s) ≡ endings.Asks request
      says_asks request e = says_so ∙ ap saying_of_out e

      asking : (request : Request) → out ≡ Asks request → IsAskingFor task request (holding now c) body (resumed fresh task input s)
      asking request e =
          asks_out task fresh input c body taken s h now request (says_asks request e)
          (λ program coroutine arguments tape code it. stands program coroutine arguments tape code it request e)

      made : task < length (resumed fresh task input s).generators
      made = subst (λ n. task < n) (sym (set_length task _ s)) (its_inside task fresh input c body taken s h)

      -- it returns, or raises
      pub returns_so : (value : Value) → out ≡ Returns value → (v : View) → parts v ≡ finish task (Ok value) (parts body.parts)
          → Appended body.parts.queue v.queue
          → v ≡ record body.parts { queue = v.queue; futures = v.futures; tasks = v.tasks; running = None }
          → EndsAt c (record body { parts = v }) (serves_once a.meaning task (resumed fresh task input s))
      returns_so value e v became appended frame =
          let x = says_so ∙ ap saying_of_out e in
          ends_out task fresh input c body taken s h (Ok value) v
          (λ go_on. ap (λ saying. served step_limit a.meaning saying task go_on (resumed fresh task input s)) x)
          (returned_sound a.meaning task value (resumed fresh task input s) h.sound x) became appended frame

      pub raises_so : (fault : Exc) → out ≡ Raises fault → (v : View) → parts v ≡ finish task (Err fault) (parts body.parts)
          → Appended body.parts.queue v.queue
          → v ≡ record body.parts { queue = v.queue; futures = v.futures; tasks = v.tasks; running = None }
          → EndsAt c (record body { parts = v }) (serves_once a.meaning task (resumed fresh task input s))
      raises_so fault e v became appended frame =
          let x = says_so ∙ ap saying_of_out e in
          ends_out task fresh input c body taken s h (Err fault) v
          (λ go_on. ap (λ saying. served step_limit a.meaning saying task go_on (resumed fresh task input s)) x)
          (raised_sound a.meaning task fault (resumed fresh task input s) h.sound x) became appended frame

      -- it runs away
      pub runs_so : out ≡ Runaway → RunsAway task c body (serves_once a.meaning task (resumed fresh task input s))
      runs_so e = runs_out task fresh input c body taken s h (says_so ∙ ap saying_of_out e)

    pub ask_of : Possible a (IsServing task fresh input taken) body → (request : Request) → out ≡ Asks request → Possible a (IsAskingFor task request) body
    ask_of may request e = ∥∥₁_map may (λ w. (holding now w.0, (resumed fresh task input w.1.0, asking w.0 w.1.0 w.1.1 request e)))

    -- ---- what it says is served
    module _ {W : Type 0} (o : Outside W) (was : W) where
      abbrev From : Context a → State a.Kept → Type 0
      From c s = IsServing task fresh input taken c body s

      -- so it is of wherever it began
      none : (new : RunState X) (so : Context a → State a.Kept → Type 0) → new.events ≡ body.events
          → ((c : Context a) (s : State a.Kept) → From c s → so c s) → HasCome o From [] (ported was body.events) (ported was new.events) so
      none new so same all =
          come_none o From (ported was body.events) (ported was new.events) so refl
          (λ c s h. (subst (λ (l : EventList). AreTold [] All body.events.events l.events) (sym same) (told_none body.events.events), all c s h))

      abbrev asked : Request → (new : RunState X) → Piece a (State a.Kept) (plain.RequestReply a.Kept) RequestReply
      asked request new = over (holding now) (serving a task request body new)

      held : (request : Request) (new : RunState X) (is : W) (result : Result RequestReply Stop)
          → Comes o (serving a task request body new) (ported was body.events) (ported is new.events) result
          → Comes o (asked request new) (ported was body.events) (ported is new.events) result
      held request new is result replies =
          comes_over o (holding now) (record { answers = λ es c. refl; rest = λ c. refl; past = λ c. refl })
          (serving a task request body new) (ported was body.events) (ported is new.events) result replies

      module _ (request : Request) (e : out ≡ Asks request) (new : RunState X) (is : W) where
        -- the request had its reply
        pub asks_so : (it : RequestReply) → Comes o (serving a task request body new) (ported was body.events) (ported is new.events) (Ok it)
            → Comes o (serving_once a task fresh input taken now body new) (ported was body.events) (ported is new.events) (Ok (served_of it))
        asks_so it replies =
            let all = come_then o From [] (ported was body.events) (ported was body.events) (asked request new) (ported is new.events)
            From (λ c s. LeadsOn task c new now (served_of it) (serves_once a.meaning task (resumed fresh task input s))) it
            (none body From refl (λ c s h. h)) (held request new is (Ok it) replies)
            (λ more c s h. (
              resumed fresh task input s,
              (
                asking (before more c) s h request e,
                λ says.
                    answered task c new now it (resumed fresh task input s) request (made (before more c) s h)
                    (says_asks (before more c) s h request e) says
                    (requests_sound a.meaning (extra_sound a) task request (resumed fresh task input s) h.sound (says_asks (before more c) s h request e)),
              ),
            )) in
            comes_ends o (serving_once a task fresh input taken now body new) all.0 (ported was body.events) (ported is new.events) (served_of it) all.1

        -- or it stopped
        pub asks_stop : (why : Stop) → Comes o (serving a task request body new) (ported was body.events) (ported is new.events) (Err why)
            → Comes o (serving_once a task fresh input taken now body new) (ported was body.events) (ported is new.events) (Err why)
        asks_stop why replies =
            comes_stops o From [] (ported was body.events) (ported was body.events) (asked request new) (ported is new.events)
            ((λ s. serves_once a.meaning task (resumed fresh task input s)), (halted, (λ c said it. LeadsOn task c new now said it, OnwardBegins))) why
            (none body _ refl (λ c s h. (
              resumed fresh task input s,
              (
                asking c s h request e,
                (
                  λ how last halts. halts_so a.meaning task (resumed fresh task input s) request (says_asks c s h request e) how last halts,
                  asks_begin a.meaning task (resumed fresh task input s) request (says_asks c s h request e),
                ),
              ),
            )))
            (held request new is (Err why) replies)

      -- it ended
      pub ends_so : (new : RunState X) (said : Served) → new.events ≡ body.events
          → ((c : Context a) (s : State a.Kept) → From c s → LeadsOn task c new now said (serves_once a.meaning task (resumed fresh task input s)))
          → Comes o (serving_once a task fresh input taken now body new) (ported was body.events) (ported was new.events) (Ok said)
      ends_so new said same all =
          comes_ends o (serving_once a task fresh input taken now body new) [] (ported was body.events) (ported was new.events) said
          (none new _ same all)

-- it had no memory
module _ {X W : Type 0} (a : Added X) (o : Outside W) (task : ℕ) (fresh : Bool) (input : Input) (body : RunState X) (taken after : Gen)
    (was : W) where
  pub resumes_without : Comes o (serving_once a task fresh input taken after body body) (ported was body.events) (ported was body.events) (Err stop.Memory)
  resumes_without =
      comes_without o (serving_once a task fresh input taken after body body) (ported was body.events) (ported was body.events)
      (λ c s h. once_begins a.meaning task (resumed fresh task input s) (c.past ++ body.events.events) h.in_step.stands.events) refl
