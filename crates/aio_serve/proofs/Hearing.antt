-- A request that is added asks the outside in the middle of its step, and is woken with what that answers, in code as in the machine.
use Rattle.std.proofs.Common.{◌≡◌, ℕ, ℤ, List, [], ◌∷◌, ◌++◌, Some, Result, Ok, Err, ◌∙◌, refl, sym, ap, subst, append_assoc}
use Rattle.std.specs.Prelude.{IfOk}
use Rattle.std.proofs.Math.Logic.{∥∥₁_map}
use Rattle.model_wire.specs.declared.call.Call.TheVariants as call
use Rattle.model_wire.specs.declared.event.End.TheVariants as end
use Rattle.model_wire.specs.declared.event.Event.TheVariants as event
use Rattle.model_wire.specs.Call.{Answer, Call}
use Rattle.model_wire.specs.Event.{Event}
use Rattle.model_wire.specs.Journal.{Entry, Answered as Answered_}
use Rattle.model_machine.specs.Extra as extra
use Rattle.model_machine.specs.Extra.{ExtraAnswer, called, key_of}
use Rattle.model_machine.specs.Replies as plain
use Rattle.model_machine.specs.Replies.{input_by, woken}
use Rattle.model_machine.specs.Sound.{AreKeysKept, ids_of}
use Rattle.model_machine.specs.State as resume_point
use Rattle.model_machine.specs.State.{State, noted}
use Rattle.model_machine.specs.Went.{answered_so, answers_in, fitted_so}
use Rattle.law_replies.specs.InStep.{MayStandAt}
use Rattle.law_runs.specs.Allowed.{MayCall}
use Rattle.law_runs.proofs.Called.{answer_sends, may_heard}
use Rattle.aio_wire.specs.EventList.{EventList}
use Rattle.aio_wire.specs.Events.{pushed}
use Rattle.aio_wire.specs.Outside.{Outside}
use Rattle.aio_wire.specs.Port.{Ported, ported}
use Rattle.aio_wire.specs.Told.{refused_of}
use Rattle.aio_wire.specs.declared.stop.Stop.{Stop}
use Rattle.aio_wire.specs.declared.stop.Stop.TheVariants as stop
use Rattle.aio_wire.specs.declared.wire.Reply.{Reply}
use Rattle.aio_wire.specs.declared.wire.Reply.TheVariants as reply
use Rattle.aio_exchange.proofs.Among.{met_told, noted_told, on_wire, told_none}
use Rattle.aio_exchange.specs.Exchanged.{AsksOne, Exchange, Exchanged, IsOf, Last, All, Met, Starved, StopsAs}
use Rattle.aio_base.specs.declared.memory.Memory.{Memory}
use Rattle.aio_extra.specs.Added.{Added}
use Rattle.aio_extra.specs.Called.{MayServe}
use Rattle.aio_extra.specs.declared.asked.Asked.{Asked}
use Rattle.aio_extra.specs.declared.asked.Asked.TheVariants as asked
use Rattle.aio_body.proofs.Asking.{HasCome, comes_ends, comes_starved}
use Rattle.aio_body.specs.Asked.{IsInStep}
use Rattle.aio_body.specs.Asking.{Comes, EndsAs, ReplyBegins, RestFits, StopsWith, before, or_stop}
use Rattle.aio_body.specs.Stands.{Possible, Context}
use Rattle.aio_body.specs.declared.run_state.RunState.{RunState}
use Rattle.aio_body.proofs.Adding.{served_of}
use Rattle.aio_body.proofs.Answering.{alive_come, stands_again}
use Rattle.aio_body.proofs.Growing.{decides_begins}
use Rattle.aio_body.proofs.Noting.{counted, stands_noted}
use Rattle.aio_body.specs.Answers.{with_answers}
use Rattle.aio_serve.proofs.Adding.{alone_free, answered_begins, answering_so, woken_on}
use Rattle.aio_serve.proofs.Again.{answering_again}
use Rattle.aio_serve.specs.Adding.{AnswersAgain, HasAnswer, IsAnswering, Woke, answered, answering_once}
use Rattle.aio_serve.specs.declared.added.Answered.{Answered}
use Rattle.aio_serve.specs.declared.added.Answered.TheVariants.{Again}

-- the call that was asked, by the same number
pub asks_number : {W : Type 0} (o : Outside W) (n m : ℤ) → n ≡ m → (bytes : List ℕ) (old new : Ported W) (result : Result Answer Stop)
    → AsksOne o (call.Extra n bytes) old new result → AsksOne o (call.Extra m bytes) old new result
asks_number o n m same bytes old new result one = subst (λ k. AsksOne o (call.Extra k bytes) old new result) same one

module _ {X W : Type 0} (a : Added X) (o : Outside W) (task : ℕ) (code : ℤ) (bytes : List ℕ) (key : ℕ) (old : RunState X) (was : W) where
  abbrev Asks_ : Asked
  Asks_ = asked.Outside code bytes key

  abbrev asks : Call
  asks = call.Extra code bytes

  abbrev At : Type 0
  At = State a.Kept × ExtraAnswer

  abbrev From : Context a → At → Type 0
  From c at = IsAnswering task Asks_ at.1 c old at.0

  -- what comes next, by the answer
  abbrev wakes : Answer → State a.Kept → plain.RequestReply a.Kept
  wakes said s = woken a.meaning task key (input_by said) s

  abbrev called_at : State a.Kept → State a.Kept
  called_at s = noted (event.Called asks) s

  abbrev got_at : Answer → List Entry → State a.Kept → State a.Kept
  got_at answer rest s = noted (event.Got answer) (record (called_at s) { answers = rest })

  -- ---- in the machine
  asks_is : (c : Context a) (s : State a.Kept) (it : ExtraAnswer) → IsAnswering task Asks_ it c old s → extra.Asks code bytes key ≡ it
  asks_is c s (extra.Asks number piece kept) h =
      ap (λ n. extra.Asks n bytes key) h.answers.0 ∙ ap (λ bs. extra.Asks number bs key) h.answers.1 ∙ ap (extra.Asks number piece) h.answers.2
  asks_is c s (extra.Answers value) h = absurd h.answers
  asks_is c s (extra.Raises fault) h = absurd h.answers
  asks_is c s (extra.Waits on kept) h = absurd h.answers

  asks_as : (c : Context a) (s : State a.Kept) (it : ExtraAnswer) → IsAnswering task Asks_ it c old s → (answers : List Entry) → s.answers ≡ answers
      → answered a.meaning task it s ≡ answered_so plain.Halts answers asks wakes (called_at s)
  asks_as c s it h answers left =
      ap (λ x. answered a.meaning task x s) (sym (asks_is c s it h))
      ∙ ap (λ es. answered_so plain.Halts es asks wakes (called_at s)) left

  told_call : (past : List Event) (s : State a.Kept) → s.events ≡ past ++ old.events.events
      → (called_at s).events ≡ past ++ (pushed old.events (event.Called asks)).events
  told_call past s told = ap (λ es. es ++ event.Called asks ∷ []) told ∙ append_assoc past old.events.events (event.Called asks ∷ [])

  told_got : (past : List Event) (s : State a.Kept) (answer : Answer) (rest : List Entry) → s.events ≡ past ++ old.events.events
      → (got_at answer rest s).events ≡ past ++ (pushed (pushed old.events (event.Called asks)) (event.Got answer)).events
  told_got past s answer rest told =
      ap (λ es. es ++ event.Got answer ∷ []) (told_call past s told)
      ∙ append_assoc past (pushed old.events (event.Called asks)).events (event.Got answer ∷ [])

  -- ---- it has no answer that fits
  module _ (new : RunState X) (is : W) (why : Stop) where
    abbrev Stops_ : Type 0
    Stops_ = Comes o (answering_once a task Asks_ old new) (ported was old.events) (ported is new.events) (Err why)

    abbrev Ends_ : Reply → Type 0
    Ends_ said =
        (c : Context a) (s : State a.Kept) (it : ExtraAnswer) → IsAnswering task Asks_ it c old s → RestFits (Met asks said) c.answers
        → StopsWith plain.Halts why c.past new.events.events (answered a.meaning task it s)

    over_so : new.events ≡ pushed old.events (event.Called asks)
        → ((s : State a.Kept) → EndsAs why (end.Over asks) s) → (c : Context a) (s : State a.Kept) (it : ExtraAnswer)
        → IsAnswering task Asks_ it c old s → c.answers ≡ []
        → StopsWith plain.Halts why c.past new.events.events (answered a.meaning task it s)
    over_so e way c s it h none = record {
      end = end.Over asks;
      last = called_at s;
      way = way (called_at s);
      stops = asks_as c s it h [] (h.in_step.stands.rest ∙ none);
      told = told_call c.past s h.in_step.stands.events ∙ ap (λ (l : EventList). c.past ++ l.events) (sym e);
    }

    ends_so : (said : Reply) → StopsAs (Met asks said) new.events.answers why
        → Exchanged o [] (Met asks said) (ported was old.events) (ported is new.events) → Ends_ said
    ends_so reply.Over stops x c s it h none =
        over_so x.notes (λ s. subst (λ w. EndsAs w (end.Over asks) s) (sym stops) refl) c s it h none
    ends_so reply.Failed stops x c s it h none =
        over_so x.notes (λ s. subst (λ w. EndsAs w (end.Over asks) s) (sym stops) refl) c s it h none
    ends_so (reply.Bad fault) stops x c s it h next = record {
      end = end.JournalRefused fault.line fault.cause;
      last = called_at s;
      way = subst (λ w. EndsAs w (end.JournalRefused fault.line fault.cause) (called_at s)) (sym stops) refl;
      stops = asks_as c s it h (refused_of fault ∷ next.0) (h.in_step.stands.rest ∙ next.1);
      told = told_call c.past s h.in_step.stands.events ∙ ap (λ (l : EventList). c.past ++ l.events) (sym x.notes);
    }
    ends_so (reply.Got answer) stops x c s it h next =
        let stands = h.in_step.stands in
        let last = got_at answer next.0 s in
        record {
          end = end.Mismatch (answers_in last.events) asks;
          last = last;
          way = subst (λ w. EndsAs w (end.Mismatch (answers_in last.events) asks) last) (sym stops) (
            refl,
            (
                ap (λ (l : EventList). l.answers) x.notes
                ∙ counted (pushed old.events (event.Called asks)).answers (called_at s).events (event.Got answer)
                (counted old.events.answers s.events (event.Called asks) stands.count)),
          );
          stops =
              asks_as c s it h (Answered_ answer ∷ next.0) (stands.rest ∙ next.1)
              ∙ ap (λ b. fitted_so plain.Halts b asks answer wakes last) x.is_last;
          told = told_got c.past s answer next.0 stands.events ∙ ap (λ (l : EventList). c.past ++ l.events) (sym x.notes);
        }

    -- by how the ask ended
    pub meets_none : AsksOne o asks (ported was old.events) (ported is new.events) (Err why) → Stops_
    meets_none met = by met.0 met.1.0 met.1.1 met.1.2
      where
        at : (said : Reply) → StopsAs (Met asks said) new.events.answers why
            → Exchanged o [] (Met asks said) (ported was old.events) (ported is new.events) → Stops_
        at said stops x = record {
          had = [];
          last = Met asks said;
          exchanged = on_wire o [] (Met asks said) (ported was old.events) (ported is new.events) x;
          comes = (
            stops,
            λ c at h rest. (met_told [] asks said old.events new.events x.notes, ends_so said stops x c at.0 at.1 h rest),
          );
        }

        by : (last : Last) → IsOf asks last → StopsAs last new.events.answers why
            → Exchanged o [] last (ported was old.events) (ported is new.events) → Stops_
        by All of stops x = absurd of
        by Starved of stops x = record {
          had = [];
          last = Starved;
          exchanged = on_wire o [] Starved (ported was old.events) (ported is new.events) x;
          comes = (
            stops,
            (
              old.events.events,
              λ c at h. (
                told_none old.events.events,
                answered_begins a.meaning task at.1 at.0 (c.past ++ old.events.events) h.in_step.stands.events,
              ),
            ),
          );
        }
        by (Met other said) of stops x =
            subst (λ k. StopsAs (Met k said) new.events.answers why
            → Exchanged o [] (Met k said) (ported was old.events) (ported is new.events) → Stops_) (sym of) (at said) stops x

  -- ---- it has its answer
  module _ (answer : Answer) (events : EventList) (mid : W) (one : AsksOne o asks (ported was old.events) (ported mid events) (Ok answer)) where
    abbrev had : List Exchange
    had = record { call = asks; answer = answer } ∷ []

    abbrev body : RunState X
    body = record old { events = events }

    -- the request goes on from there
    pub record HasHeard (c : Context a) (at : At) : Type 0 where
      pub in_step : IsInStep task c body (got_at answer c.answers at.0)
      pub may : MayCall a.meaning (Some task) (got_at answer c.answers at.0)
      pub keys : AreKeysKept (a.meaning.keeps at.0.extra).has_key at.0.generators
      pub keyed : MayStandAt (a.meaning.keeps at.0.extra).has_key at.0.generators (resume_point.Serving key)
      pub same : answered a.meaning task at.1 at.0 ≡ wakes answer (got_at answer c.answers at.0)

    heard_so : (c : Context a) (at : At) → From (before had c) at → HasHeard c at
    heard_so c at h =
        let s = at.0 in
        let b = before had c in
        let stands = h.in_step.stands in
        record {
          in_step = record {
            stands =
                stands_noted (Some task) (record b { answers = c.answers }) (record old { events = pushed old.events (event.Called asks) })
                (record (called_at s) { answers = c.answers }) (event.Got answer) events one.notes
                (stands_again c.answers b (record old { events = pushed old.events (event.Called asks) }) (called_at s) (Some task)
                (stands_noted (Some task) b old s (event.Called asks) (pushed old.events (event.Called asks)) refl stands));
            called = h.in_step.called;
            running = h.in_step.running;
          };
          may = may_heard a.meaning (Some task) asks answer c.answers s h.may;
          keys = h.keys;
          keyed = h.keyed key (ap key_of (sym (asks_is b s at.1 h)));
          same =
              asks_as b s at.1 h (Answered_ answer ∷ c.answers) stands.rest
              ∙ ap (λ fit. fitted_so plain.Halts fit asks answer wakes (got_at answer c.answers s)) one.fit.0;
        }

    pub has_heard : HasCome o From had (ported was old.events) (ported mid events) HasHeard
    has_heard = record {
      exchanged = on_wire o had All (ported was old.events) (ported mid events) one;
      told = λ c at h. (noted_told had old.events events one.notes, heard_so c at h);
    }

    -- what a wake may rely on then
    heard_may : Possible a (HasAnswer task Asks_) old → ∥ ((c : Context a) × ((at : At) × HasHeard c at)) ∥₁
    heard_may m =
        alive_come o From (λ answers c at h. ((with_answers answers at.0, at.1), answering_again a answers task Asks_ at.1 c old at.0 h)) had
        (ported was old.events) (ported mid events) HasHeard has_heard (∥∥₁_map m (λ w. (w.0, ((w.1.0, w.1.1.0), w.1.1.1))))

    runs_may : (c : Context a) (at : At) → HasHeard c at → MayCall a.meaning body.parts.running (got_at answer c.answers at.0)
    runs_may c at h = subst (λ r. MayCall a.meaning r (got_at answer c.answers at.0)) (sym h.in_step.running) h.may

    pub heard_served : Possible a (HasAnswer task Asks_) old → MayServe a body.parts.running body.extra body.parts
    heard_served m =
        ∥∥₁_map (heard_may m) (λ w.
        let h = w.1.1 in (
          h.in_step.stands.name_map,
          (
            got_at answer w.0.answers w.1.0.0,
            served_of (Some task) body.parts.running w.0 body (got_at answer w.0.answers w.1.0.0) h.in_step.stands h.in_step.called refl
                (runs_may w.0 w.1.0 h),
          ),
        ))

    -- it was woken
    woken_so : (c : Context a) (at : At) → HasHeard c at → (new : RunState X) (next : Asked) → Woke a key (input_by answer) body new next
        → AnswersAgain task next c new (answered a.meaning task at.1 at.0)
    woken_so c at h new next woke =
        let t = got_at answer c.answers at.0 in
        let said = a.meaning.wake key (input_by answer) t in
        subst (λ (b : RunState X). AnswersAgain task next c b (answered a.meaning task at.1 at.0)) (sym woke.frame) (record {
          now = called said.call t;
          it = said.answer;
          answering =
              answering_so task c body t h.in_step h.may h.keys new.parts new.extra next (Some key) (alone_free t.generators key h.keyed.0) said
              (a.allowed.wake task key (input_by answer) t h.may h.keyed.1 (answer_sends (ids_of t) answer))
              (woke.says h.in_step.stands.name_map t
              (served_of (Some task) body.parts.running c body t h.in_step.stands h.in_step.called refl (runs_may c at h)) h.keyed.1
              (answer_sends (ids_of t) answer));
          same = sym (woken_on a.meaning a.falls task key (input_by answer) t) ∙ sym h.same;
        })

    pub wakes_again : (new : RunState X) (next : Asked) → Woke a key (input_by answer) body new next
        → Comes o (answering_once a task Asks_ old new) (ported was old.events) (ported mid new.events) (Ok (Again next))
    wakes_again new next woke =
        subst (λ (l : EventList). Comes o (answering_once a task Asks_ old new) (ported was old.events) (ported mid l) (Ok (Again next)))
        (sym (ap (λ (b : RunState X). b.events) woke.frame))
        (comes_ends o (answering_once a task Asks_ old new) had (ported was old.events) (ported mid events) (Again next) (record {
          exchanged = has_heard.exchanged;
          told = λ c at h. let t = has_heard.told c at h in (t.0, woken_so c at t.1 new next woke);
        }))

    -- memory is refused for that
    pub wakes_starved : (new : RunState X)
        → Comes o (answering_once a task Asks_ old new) (ported was old.events) (ported mid new.events) (Err stop.Memory)
    wakes_starved new =
        comes_starved o (answering_once a task Asks_ old new) had (ported was old.events) (ported mid events) (ported mid new.events) refl (record {
          exchanged = has_heard.exchanged;
          told = λ c at h.
              let t = has_heard.told c at h in (
                t.0,
                subst (ReplyBegins (c.past ++ events.events)) (sym t.1.same)
                    (decides_begins a.meaning task (c.past ++ events.events) (got_at answer c.answers at.0) t.1.in_step.stands.events
                    (resume_point.Serving key) (input_by answer)),
              );
        })

    -- by what came of it
    pub hears_so : (mid_body : RunState X) → mid_body ≡ body → (new : RunState X) (result : Result Answered Memory)
        → IfOk result (λ told. (next : Asked) × (told ≡ Again next) × Woke a key (input_by answer) mid_body new next)
        → Comes o (answering_once a task Asks_ old new) (ported was old.events) (ported mid new.events) (or_stop result)
    hears_so mid_body same new (Ok told) h =
        subst (λ k. Comes o (answering_once a task Asks_ old new) (ported was old.events) (ported mid new.events) (Ok k)) (sym h.1)
        (wakes_again new h.0 (subst (λ (b : RunState X). Woke a key (input_by answer) b new h.0) same h.2))
    hears_so mid_body same new (Err memory) h = wakes_starved new
