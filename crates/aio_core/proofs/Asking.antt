-- A turn over the outside's answer: what a call that has none comes to, and a turn that has its answer.
use Rattle.std.proofs.Common.{◌≡◌, ◌⊎◌, inl, inr, ℕ, Bool, true, false, List, [], ◌∷◌, ◌++◌, None, Result, Ok, Err, ◌∙◌, refl, sym, ap, subst}
use Rattle.std.proofs.Common.{append_assoc}
use Rattle.std.proofs.Common.{if◌then◌else◌}
use Rattle.std.proofs.Math.Logic.{∥∥₁_map}
use Rattle.model_says.specs.Says.{step_limit}
use Rattle.model_wire.specs.declared.event.End.TheVariants as end
use Rattle.model_wire.specs.declared.event.Event.TheVariants as event
use Rattle.model_wire.specs.Call.{Answer, Call}
use Rattle.model_wire.specs.Event.{Event}
use Rattle.model_wire.specs.Fits.{fits}
use Rattle.model_wire.specs.Journal.{Entry, Answered}
use Rattle.model_wire.specs.Told.{Agrees, WireSeen}
use Rattle.model_machine.specs.Extra.{Extra}
use Rattle.model_machine.specs.State.{State, noted}
use Rattle.model_machine.specs.Turn.{call_of, is_stalled, turn, turn_unless, turned_by}
use Rattle.model_machine.specs.Went.{Stops, answered_by, answers_in, ask, fitted}
use Rattle.law_runs.proofs.Turning.{noted_in}
use Rattle.aio_wire.specs.EventList.{EventList}
use Rattle.aio_wire.specs.Events.{pushed}
use Rattle.aio_wire.specs.Outside.{Outside}
use Rattle.aio_wire.specs.Port.{AlwaysFails, Exchanges, StopsShort, UnlessStopped, ported}
use Rattle.aio_wire.specs.Replied.{MayHaveReplied, Replied}
use Rattle.aio_exchange.proofs.Among.{noted_told, on_wire}
use Rattle.aio_exchange.specs.Exchanged.{AsksOne, Exchange, All}
use Rattle.aio_body.proofs.Asking.{comes_goes}
use Rattle.aio_body.specs.Asking.{Comes, before}
use Rattle.aio_wire.specs.Told.{refused_of}
use Rattle.aio_wire.specs.declared.stop.Stop.{Stop}
use Rattle.aio_wire.specs.declared.stop.Stop.TheVariants as stop
use Rattle.aio_wire.specs.declared.wire.JournalFault.{JournalFault}
use Rattle.aio_wire.specs.declared.wire.Reply.{Reply}
use Rattle.aio_wire.specs.declared.wire.Reply.TheVariants as reply
use Rattle.aio_extra.specs.Added.{Added}
use Rattle.aio_body.specs.declared.run_state.RunState.{RunState}
use Rattle.aio_body.specs.Stands.{Context, IsBetween, Possible}
use Rattle.aio_body.proofs.Answering.{stands_again}
use Rattle.aio_body.proofs.Noting.{counted, stands_noted}
use Rattle.aio_core.specs.declared.went.Went as code
use Rattle.aio_core.specs.declared.went.Went.TheVariants as went
use Rattle.aio_core.specs.Watched.{StandsOn}
use Rattle.aio_core.specs.Turning.{ComesTo, EndsFrom, Is, NoneLeft, OfFailing, StallsAs, Stood, UnlessFailed}
use Rattle.aio_core.specs.Turning.{changed_by, resting, stood_by, turning, turning_by}

-- ---- the machine
turn_asks : {S : Type 0} (added : Extra S) (s : State S) → is_stalled added s ≡ false
    → turn step_limit added s ≡ ask (call_of added s) (turned_by step_limit added) s
unfolding turn
turn_asks added s e = ap (λ b. turn_unless step_limit added b s) e

turn_stalls : {S : Type 0} (added : Extra S) (s : State S) → is_stalled added s ≡ true → turn step_limit added s ≡ Stops end.Stalled s
unfolding turn
turn_stalls added s e = ap (λ b. turn_unless step_limit added b s) e

-- the call is noted
abbrev pub called_at : {S : Type 0} → Call → State S → State S
called_at call s = noted (event.Called call) s

-- and the answer
abbrev pub got_at : {S : Type 0} → Call → Answer → List Entry → State S → State S
got_at call answer rest s = noted (event.Got answer) (record (called_at call s) { answers = rest })

-- ---- of a turn that isn't stalled, by its call
module _ {X : Type 0} {a : Added X} (old : RunState X) (call : Call)
    (is : (c : Context a) (s : State a.Kept) → IsBetween c old s → call ≡ call_of a.meaning s)
    (goes : (c : Context a) (s : State a.Kept) → IsBetween c old s → false ≡ is_stalled a.meaning s) where
  turned_as : (c : Context a) (s : State a.Kept) → IsBetween c old s → (answers : List Entry) → s.answers ≡ answers
      → turn step_limit a.meaning s ≡ answered_by answers call (turned_by step_limit a.meaning) (called_at call s)
  turned_as c s h answers e =
      turn_asks a.meaning s (sym (goes c s h)) ∙ ap (λ it. ask it (turned_by step_limit a.meaning) s) (sym (is c s h))
      ∙ ap (λ those. answered_by those call (turned_by step_limit a.meaning) (called_at call s)) e

  told_call : (past answers : List Event) (rest : List Entry) (s : State a.Kept) (events : EventList) → s.events ≡ past ++ old.events.events
      → events ≡ pushed old.events (event.Called call) → (called_at call s).events ≡ past ++ events.events
  told_call past answers rest s events told e =
      ap (λ es. es ++ event.Called call ∷ []) told ∙ append_assoc past old.events.events (event.Called call ∷ [])
      ∙ ap (λ (l : EventList). past ++ l.events) (sym e)

  pub told_got : (past : List Event) (s : State a.Kept) (answer : Answer) (rest : List Entry) (events : EventList) → s.events ≡ past ++ old.events.events
      → events ≡ pushed (pushed old.events (event.Called call)) (event.Got answer) → (got_at call answer rest s).events ≡ past ++ events.events
  told_got past s answer rest events told e =
      ap (λ es. es ++ event.Got answer ∷ []) (told_call past [] rest s (pushed old.events (event.Called call)) told refl)
      ∙ append_assoc past (old.events.events ++ event.Called call ∷ []) (event.Got answer ∷ [])
      ∙ ap (λ (l : EventList). past ++ l.events) (sym e)

  -- ---- it has none
  module _ (events : EventList) (before after : WireSeen) where
    -- none was left, and the call alone is told
    ends_over : events ≡ pushed old.events (event.Called call) → EndsFrom a.meaning [] NoneLeft (Is (end.Over call)) (stood_by a old) events.events
    ends_over e past rest s none h = record {
      end = end.Over call;
      last = called_at call s;
      way = refl;
      stops = turned_as (resting a past rest h.0) s h.1 [] (h.1.stands.rest ∙ none);
      told = told_call past [] rest s events h.1.stands.events e;
    }

    stops_over : Replied call before after reply.Over → events ≡ pushed old.events (event.Called call) → (new : Stood a.Kept) (tasks : ℕ)
        → ComesTo a.meaning before after (record { old = stood_by a old; new = new; untaken = events.events; tasks = tasks }) (went.Stopped (stop.Over call))
    stops_over replied e new tasks = ([], (replied.left.0, ends_over e))

    stops_bad : (fault : JournalFault) → Replied call before after (reply.Bad fault) → events ≡ pushed old.events (event.Called call)
        → (new : Stood a.Kept) (tasks : ℕ)
        → ComesTo a.meaning before after (record { old = stood_by a old; new = new; untaken = events.events; tasks = tasks }) (went.Stopped (stop.Bad fault))
    stops_bad fault replied e new tasks = (
      [],
      (
        replied.left.0,
        λ past rest s next h. record {
          end = end.JournalRefused fault.line fault.cause;
          last = called_at call s;
          way = refl;
          stops = turned_as (resting a past rest h.0) s h.1 (refused_of fault ∷ next.0) (h.1.stands.rest ∙ next.1);
          told = told_call past [] rest s events h.1.stands.events e;
        },
      ),
    )

    stops_failed : Replied call before after reply.Failed → events ≡ pushed old.events (event.Called call) → (new : Stood a.Kept) (tasks : ℕ)
        → ComesTo a.meaning before after (record { old = stood_by a old; new = new; untaken = events.events; tasks = tasks })
        (went.Stopped (stop.Failed call))
    stops_failed replied e new tasks = ([], (replied.left, ends_over e, replied.failed))

    stops_misfit : (answer : Answer) → Replied call before after (reply.Got answer)
        → events ≡ pushed (pushed old.events (event.Called call)) (event.Got answer) → fits call answer ≡ false → (new : Stood a.Kept) (tasks : ℕ)
        → ComesTo a.meaning before after (record { old = stood_by a old; new = new; untaken = events.events; tasks = tasks })
        (went.Stopped (stop.Mismatch events.answers call))
    stops_misfit answer replied e misfits new tasks = (
      answer ∷ [],
      (
        replied.left,
        λ past rest s any h.
            let h_stands = h.1.stands in record {
              end = end.Mismatch (answers_in (got_at call answer rest s).events) call;
              last = got_at call answer rest s;
              way = (
                refl,
                (
                    ap (λ (l : EventList). l.answers) e
                    ∙ counted (pushed old.events (event.Called call)).answers (called_at call s).events (event.Got answer)
                    (counted old.events.answers s.events (event.Called call) h_stands.count)),
              );
              stops =
                  turned_as (resting a past (Answered answer ∷ rest) h.0) s h.1 (Answered answer ∷ rest) h_stands.rest
                  ∙ ap (λ b. fitted b call answer (turned_by step_limit a.meaning) (got_at call answer rest s)) misfits;
              told = told_got past s answer rest events h_stands.events e;
            },
      ),
    )

    -- by what came of the call
    pub stops_so : (result : Result Answer Stop) (why : Stop) → result ≡ Err why
        → ((said : Reply) × Exchanges call old.events events result said × Replied call before after said)
        ⊎ (StopsShort old.events events result × MayHaveReplied call before after)
        → (new : Stood a.Kept) (tasks : ℕ)
        → ComesTo a.meaning before after (record { old = stood_by a old; new = new; untaken = events.events; tasks = tasks }) (went.Stopped why)
    stops_so result why e (inr short) new tasks =
        subst (λ w. ComesTo a.meaning before after (record { old = stood_by a old; new = new; untaken = events.events; tasks = tasks }) (went.Stopped w))
        (err_same stop.Memory why (sym short.0.0 ∙ e)) tt
      where
        err_same : (a b : Stop) → ◌≡◌ {A = Result Answer Stop} (Err a) (Err b) → a ≡ b
        err_same a b e = cc
    stops_so result why e (inl (said, exchanged, replied)) new tasks = at said exchanged replied
      where
        Comes : Stop → Type 0
        Comes w = ComesTo a.meaning before after (record { old = stood_by a old; new = new; untaken = events.events; tasks = tasks }) (went.Stopped w)

        err_same : (a b : Stop) → ◌≡◌ {A = Result Answer Stop} (Err a) (Err b) → a ≡ b
        err_same a b e = cc

        misfit : (answer : Answer) (b : Bool) → fits call answer ≡ b
            → result ≡ (if b then Ok answer else Err (stop.Mismatch events.answers call))
            → events ≡ pushed (pushed old.events (event.Called call)) (event.Got answer) → Replied call before after (reply.Got answer) → Comes why
        misfit answer true f r es replied = absurd (let x = sym r ∙ e in cc)
        misfit answer false f r es replied =
            subst Comes (err_same (stop.Mismatch events.answers call) why (sym r ∙ e)) (stops_misfit answer replied es f new tasks)

        at : (said : Reply) → Exchanges call old.events events result said → Replied call before after said → Comes why
        at (reply.Got answer) x replied = misfit answer (fits call answer) refl x.1 x.0 replied
        at reply.Over x replied = subst Comes (err_same (stop.Over call) why (sym x.1 ∙ e)) (stops_over replied x.0 new tasks)
        at (reply.Bad fault) x replied = subst Comes (err_same (stop.Bad fault) why (sym x.1 ∙ e)) (stops_bad fault replied x.0 new tasks)
        at reply.Failed x replied = subst Comes (err_same (stop.Failed call) why (sym x.1 ∙ e)) (stops_failed replied x.0 new tasks)

  -- ---- it has its answer
  -- the answer was the first of those that were left, and is noted
  pub record HasGot (answer : Answer) (events : EventList) (before after : WireSeen) : Type 0 where
    pub is_fit : fits call answer ≡ true
    pub was_left : (rest : List Entry) → Agrees after.left rest → Agrees before.left (Answered answer ∷ rest)
    pub is_noted : events ≡ pushed (pushed old.events (event.Called call)) (event.Got answer)

  pub got_so : (result : Result Answer Stop) (answer : Answer) (events : EventList) (before after : WireSeen) → result ≡ Ok answer
      → ((said : Reply) × Exchanges call old.events events result said × Replied call before after said)
      ⊎ (StopsShort old.events events result × MayHaveReplied call before after)
      → HasGot answer events before after
  got_so result answer events before after e (inr short) = absurd (let x = sym short.0.0 ∙ e in cc)
  got_so result answer events before after e (inl (said, exchanged, replied)) = at said exchanged replied
    where
      fit : (it : Answer) (b : Bool) → fits call it ≡ b → result ≡ (if b then Ok it else Err (stop.Mismatch events.answers call))
          → events ≡ pushed (pushed old.events (event.Called call)) (event.Got it) → Replied call before after (reply.Got it)
          → HasGot answer events before after
      fit it false f r es replied = absurd (let x = sym r ∙ e in cc)
      fit it true f r es replied =
          subst (λ a. HasGot a events before after) (ok_same it answer (sym r ∙ e)) (record {
            is_fit = f;
            was_left = replied.left;
            is_noted = es;
          })
        where
          ok_same : (a b : Answer) → ◌≡◌ {A = Result Answer Stop} (Ok a) (Ok b) → a ≡ b
          ok_same a b e = cc

      at : (said : Reply) → Exchanges call old.events events result said → Replied call before after said → HasGot answer events before after
      at (reply.Got it) x replied = fit it (fits call it) refl x.1 x.0 replied
      at reply.Over x replied = absurd (let y = sym x.1 ∙ e in cc)
      at (reply.Bad fault) x replied = absurd (let y = sym x.1 ∙ e in cc)
      at reply.Failed x replied = absurd (let y = sym x.1 ∙ e in cc)

  -- what is stood for then, where all this was stood for as the watch list was made
  module _ (held : RunState X) (on : StandsOn a old held) where
    held_notes : (it : Event) → pushed old.events it ≡ pushed held.events it
    held_notes it = ap (λ (l : EventList). pushed l it) (sym on.events)

    pub got_between : (answer : Answer) (events : EventList) → events ≡ pushed (pushed old.events (event.Called call))
        (event.Got answer)
        → (c : Context a) (s : State a.Kept) (rest : List Entry) → IsBetween c old s
        → IsBetween (record c { answers = rest }) (record held { events = events }) (got_at call answer rest s)
    got_between answer events e c s rest before_ =
        let h = on.between c s before_ in record {
          stands =
              stands_noted None (record c { answers = rest }) (record held { events = pushed old.events (event.Called call) })
              (record (called_at call s) { answers = rest }) (event.Got answer) events e
              (stands_again rest c (record held { events = pushed old.events (event.Called call) }) (called_at call s) None
              (stands_noted None c held s (event.Called call) (pushed old.events (event.Called call))
              (held_notes (event.Called call)) h.stands));
          called = h.called;
          running = h.running;
          sound = noted_in a.meaning s rest call answer h.sound;
        }

    pub got_alive : (answer : Answer) (events : EventList) → events ≡ pushed (pushed old.events (event.Called call))
        (event.Got answer)
        → Possible a IsBetween old → Possible a IsBetween (record held { events = events })
    got_alive answer events e alive =
        ∥∥₁_map alive (λ w. (
          record w.0 { answers = [] },
          (
            got_at call answer [] w.1.0,
            got_between answer events e w.0 w.1.0 []
                w.1.1,
          ),
        ))

    -- a turn that has this answer goes on by it
    module _ {W : Type 0} (o : Outside W) (was mid : W) (answer : Answer) (events : EventList)
        (one : AsksOne o call (ported was old.events) (ported mid events) (Ok answer)) where
      abbrev asked : List Exchange
      asked = record { call = call; answer = answer } ∷ []

      pub answered_so : (new : RunState X) (is : W) (result : Result code.Went Stop)
          → Comes o (turning_by a answer (record held { events = events }) new) (ported mid events) (ported is new.events) result
          → Comes o (turning a old new) (ported was old.events) (ported is new.events) result
      answered_so new is result turns =
          comes_goes o (turning a old new) asked (ported was old.events) (ported mid events)
          (λ c s. IsBetween c (record held { events = events }) s) (turned_by step_limit a.meaning answer) (ported is new.events)
          result
          (record {
            exchanged = on_wire o asked All (ported was old.events) (ported mid events) one;
            told = λ c s h. (
              noted_told asked old.events events one.notes,
              (
                got_at call answer c.answers s,
                (
                  got_between answer events one.notes (before asked c) s c.answers h,
                  turned_as (before asked c) s h (Answered answer ∷ c.answers) h.stands.rest
                      ∙ ap (λ b. fitted b call answer (turned_by step_limit a.meaning) (got_at call answer c.answers s))
                      one.fit.0,
                ),
              ),
            );
          }) turns

module _ {X : Type 0} {a : Added X} where
  -- ---- a turn that is stalled
  pub stalls_so : (old : RunState X) (seen : WireSeen) → ((c : Context a) (s : State a.Kept) → IsBetween c old s → true ≡ is_stalled a.meaning s)
      → ComesTo a.meaning seen seen (changed_by a old old) went.Stalled
  stalls_so old seen is = (
    refl,
    λ past rest s any h. record {
      end = end.Stalled;
      last = s;
      way = refl;
      stops = turn_stalls a.meaning s (sym (is (resting a past rest h.0) s h.1));
      told = h.1.stands.events;
    },
  )

-- ---- what holds of the wire
pub still_after : (fact : Type 0) (said : code.Went) → fact → UnlessFailed fact said
still_after fact went.Went h = h
still_after fact (went.Finished outcome) h = h
still_after fact went.Stalled h = h
still_after fact (went.Runaway task) h = h
still_after fact (went.Stopped (stop.Over call)) h = h
still_after fact (went.Stopped (stop.Bad fault)) h = h
still_after fact (went.Stopped (stop.Mismatch count call)) h = h
still_after fact (went.Stopped (stop.Failed call)) h = tt
still_after fact (went.Stopped stop.Memory) h = h

pub still_stopped : (fact : Type 0) (why : Stop) → UnlessStopped fact (Err why) → UnlessFailed fact (went.Stopped why)
still_stopped fact (stop.Over call) h = h
still_stopped fact (stop.Bad fault) h = h
still_stopped fact (stop.Mismatch count call) h = h
still_stopped fact (stop.Failed call) h = tt
still_stopped fact stop.Memory h = h

pub failing_stopped : (call : Call) (why : Stop) → AlwaysFails call (Err why) → OfFailing (went.Stopped why)
failing_stopped call why (inl e) = subst (λ w. OfFailing (went.Stopped w)) (sym (same why (stop.Failed call) e)) tt
  where
    same : (a b : Stop) → ◌≡◌ {A = Result Answer Stop} (Err a) (Err b) → a ≡ b
    same a b e = cc
failing_stopped call why (inr e) = subst (λ w. OfFailing (went.Stopped w)) (sym (same why stop.Memory e)) tt
  where
    same : (a b : Stop) → ◌≡◌ {A = Result Answer Stop} (Err a) (Err b) → a ≡ b
    same a b e = cc

pub failing_answered : (call : Call) (answer : Answer) → AlwaysFails call (Ok answer) → ⊥
failing_answered call answer (inl e) = absurd (cc)
failing_answered call answer (inr e) = absurd (cc)

pub stalls_stopped : (why : Stop) → StallsAs false (went.Stopped why)
stalls_stopped (stop.Over call) = refl
stalls_stopped (stop.Bad fault) = refl
stalls_stopped (stop.Mismatch count call) = refl
stalls_stopped (stop.Failed call) = refl
stalls_stopped stop.Memory = tt
