-- A task is served until its step ends: what one answer after another leads to.
use Rattle.std.proofs.Common.{◌≡◌, ℕ, suc, ◌+◌, ◌<◌, false, List, length, ◌∙◌, sym, ap, subst, arith}
use Rattle.model_value.specs.Request.{Request}
use Rattle.model_value.specs.declared.input.Input.TheVariants.{Send, Throw}
use Rattle.model_says.specs.Endings.{Asks}
use Rattle.model_says.specs.Says.{step_limit}
use Rattle.model_wire.specs.Event.{Event}
use Rattle.model_wire.specs.Trace.{End}
use Rattle.std.proofs.Math.Path.{fun_ext}
use Rattle.model_machine.specs.Extra.{Extra}
use Rattle.model_machine.specs.Replies as plain
use Rattle.model_machine.specs.Replies.{reply}
use Rattle.model_machine.specs.State.{State, generator_of}
use Rattle.model_machine.specs.Step.{most_answers, says_of, serve, serve_all, served, taken_as}
use Rattle.model_machine.specs.Went.{Went}
use Rattle.aio_extra.specs.Added.{Added}
use Rattle.aio_body.specs.declared.run_state.RunState.{RunState}
use Rattle.aio_gen.specs.declared.generator.Gen.{Gen}
use Rattle.aio_body.specs.declared.reply.RequestReply.{RequestReply}
use Rattle.aio_body.specs.declared.reply.RequestReply.TheVariants as said
use Rattle.aio_body.specs.Asked.{Says}
use Rattle.aio_body.specs.Asking.{ReplyBegins, WentBegins}
use Rattle.aio_body.specs.Stands.{Context, holding}
use Rattle.aio_step.specs.Serving.{GoesOnWith, LeadsOn, OnwardBegins, halted, serves_once, served_of}
use Rattle.law_runs.proofs.Kept.{IsKeptInAnswer, reply_state, reply-keeps}
use Rattle.law_replies.specs.InStep.{RepliesInStep}
use Rattle.aio_body.proofs.Growing.{serve_adds, served_adds, taken_begins}
use Rattle.aio_body.proofs.Sound.{ends_by_itself}

-- what serving what the coroutine says comes to, whatever comes after
abbrev pub ServedAs : {S : Type 0} → Extra S → ℕ → State S → ((State S → Went S) → Went S) → Type 0
ServedAs {S} added task s machine =
    (go_on : State S → Went S) → served step_limit added (says_of step_limit added task s) task go_on s ≡ machine go_on

-- What a reply makes of the step: `s` is the state in which it was asked.
abbrev pub GoesOnBy : {X : Type 0} {a : Added X} → ℕ → Context a → RunState X → Gen → RequestReply → State a.Kept → Type 0
GoesOnBy {a = a} task c body coroutine it s = LeadsOn task c body coroutine (served_of it) (serves_once a.meaning task s)

-- after so many answers the step goes on here
pub record LeadsTo {S : Type 0} (added : Extra S) (task : ℕ) (first now : State S) : Type 0 where
  pub count : ℕ
  pub same : (m : ℕ) → serve step_limit added m task now ≡ serve step_limit added (m + count) task first

pub leads_same : {S : Type 0} (added : Extra S) (task : ℕ) (first : State S) → LeadsTo added task first first
leads_same added task first = record { count = 0; same = λ m. ap (λ k. serve step_limit added k task first) (plus_none m) }
  where
    plus_none : (m : ℕ) → m ≡ m + 0
    plus_none m = omega arith

move : (m k : ℕ) → suc m + k ≡ m + suc k
move m k = omega arith

pub leads_on : {S : Type 0} (added : Extra S) (task : ℕ) (first now next : State S) → LeadsTo added task first now
    → ServedAs added task now (λ go_on. go_on next) → LeadsTo added task first next
unfolding serve
leads_on added task first now next l goes = record {
  count = suc l.count;
  same = λ m.
      sym (goes (serve step_limit added m task)) ∙ l.same (suc m)
      ∙ ap (λ k. serve step_limit added k task first) (move m l.count);
}

-- the whole is the rest from here, with a bound that is not met
goes_from : {S : Type 0} (added : Extra S) (task : ℕ) (first now : State S) → (l : LeadsTo added task first now) → task < length first.generators
    → serve_all step_limit added task first ≡ serve step_limit added (suc (most_answers step_limit (generator_of task first).tape)) task now
goes_from added task first now l within =
    sym (ends_by_itself added task (suc l.count) first within)
    ∙ sym (ap (λ k. serve step_limit added k task first) (move (most_answers step_limit (generator_of task first).tape) l.count))
    ∙ sym (l.same (suc (most_answers step_limit (generator_of task first).tape)))

-- so it begins with what that begins with
pub leads_begin : {S : Type 0} (added : Extra S) (task : ℕ) (first now : State S) → LeadsTo added task first now → task < length first.generators
    → (events : List Event) → OnwardBegins events (serves_once added task now) → WentBegins events (serve_all step_limit added task first)
unfolding serve
leads_begin added task first now l within events begins =
    subst (WentBegins events) (sym (goes_from added task first now l within))
    (begins (serve step_limit added (most_answers step_limit (generator_of task first).tape) task)
    (serve_adds step_limit added task (most_answers step_limit (generator_of task first).tape)))

pub leads_end : {S : Type 0} (added : Extra S) (task : ℕ) (first now : State S) (went : Went S) → LeadsTo added task first now
    → ServedAs added task now (λ go_on. went)
    → task < length first.generators → serve_all step_limit added task first ≡ went
unfolding serve
leads_end added task first now went l goes within =
    goes_from added task first now l within
    ∙ goes (serve step_limit added (most_answers step_limit (generator_of task first).tape) task)

-- what is told before an answer of the coroutine is told after it
pub once_begins : {S : Type 0} (added : Extra S) (task : ℕ) (s : State S) (events : List Event) → s.events ≡ events
    → OnwardBegins events (serves_once added task s)
once_begins added task s events same go_on adds =
    subst (λ (es : List Event). WentBegins es (serves_once added task s go_on)) same
    (served_adds step_limit added task (says_of step_limit added task s) go_on adds s)

-- and so is what its request begins with
pub asks_begin : {S : Type 0} (added : Extra S) (task : ℕ) (s : State S) (request : Request) → says_of step_limit added task s ≡ Asks request
    → (events : List Event) → ReplyBegins events (reply added task request s) → OnwardBegins events (serves_once added task s)
asks_begin added task s request asks events begins go_on adds =
    subst (WentBegins events) (sym (ap (λ saying. served step_limit added saying task go_on s) asks))
    (taken_begins events (reply added task request s) false task go_on adds begins)

-- a reply that ends the run ends the step
pub halts_so : {S : Type 0} (added : Extra S) (task : ℕ) (s : State S) (request : Request) → says_of step_limit added task s ≡ Asks request
    → (how : End) (last : State S) → reply added task request s ≡ plain.Halts how last → serves_once added task s ≡ halted how last
halts_so added task s request asks how last e =
    fun_ext (λ go_on.
    ap (λ saying. served step_limit added saying task go_on s) asks ∙ ap (λ it. taken_as it false task go_on) e)

module _ {X : Type 0} {a : Added X} where
  pub answered : (task : ℕ) (c : Context a) (body : RunState X) (coroutine : Gen) (it : RequestReply) (s : State a.Kept) (request : Request)
      → task < length s.generators → says_of step_limit a.meaning task s ≡ Asks request
      → Says task (holding coroutine c) body it (reply a.meaning task request s)
      → RepliesInStep a.meaning false task (reply a.meaning task request s)
      → GoesOnBy task c body coroutine it s
  answered task c body coroutine it s request made asks says sound =
      at it (reply a.meaning task request s) (reply-keeps a.meaning task request s)
      (λ go_on. ap (λ saying. served step_limit a.meaning saying task go_on s) asks) says sound
    where
      at : (it : RequestReply) (machine : plain.RequestReply a.Kept) → IsKeptInAnswer task s (reply_state machine)
          → ((go_on : State a.Kept → Went a.Kept)
          → served step_limit a.meaning (says_of step_limit a.meaning task s) task go_on s ≡ taken_as machine false task go_on)
          → Says task (holding coroutine c) body it machine → RepliesInStep a.meaning false task machine
          → GoesOnBy task c body coroutine it s
      at (said.Answers value) (plain.Answers v now) kept goes h sound =
          subst (λ x. GoesOnWith task (Send x) c body coroutine (serves_once a.meaning task s)) (sym h.0) (record {
            now = now;
            serving = record { in_step = h.1; sound = sound };
            goes = goes;
          })
      at (said.Raises fault) (plain.Raises f now) kept goes h sound =
          subst (λ x. GoesOnWith task (Throw x) c body coroutine (serves_once a.meaning task s)) (sym h.0) (record {
            now = now;
            serving = record { in_step = h.1; sound = sound };
            goes = goes;
          })
      at said.Suspends (plain.Suspends now) kept goes h sound = record {
        now = now;
        suspended = h;
        made = let more = kept.generators in omega (arith, made, more);
        sound = sound;
        goes = goes;
      }
      at (said.Answers value) (plain.Raises f now) kept goes h sound = absurd h
      at (said.Answers value) (plain.Suspends now) kept goes h sound = absurd h
      at (said.Answers value) (plain.Halts e last) kept goes h sound = absurd h
      at (said.Raises fault) (plain.Answers v now) kept goes h sound = absurd h
      at (said.Raises fault) (plain.Suspends now) kept goes h sound = absurd h
      at (said.Raises fault) (plain.Halts e last) kept goes h sound = absurd h
      at said.Suspends (plain.Answers v now) kept goes h sound = absurd h
      at said.Suspends (plain.Raises f now) kept goes h sound = absurd h
      at said.Suspends (plain.Halts e last) kept goes h sound = absurd h
