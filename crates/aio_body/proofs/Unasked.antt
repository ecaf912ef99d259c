-- What leaves the answers as they were asked nothing, and no event tells of an ask.
use Rattle.std.proofs.Common.{◌≡◌, ℕ, ◌+◌, List, [], ◌∷◌, ◌++◌, Some, length, ◌∙◌, refl, sym, ap, arith, append-nil, append_assoc}
use Rattle.std.proofs.lemmas.List.{append_cancel_left}
use Rattle.model_value.specs.Input.{Input}
use Rattle.model_value.specs.Request.{Request}
use Rattle.model_wire.specs.declared.event.Event.TheVariants as event
use Rattle.model_wire.specs.Event.{Event}
use Rattle.model_machine.specs.Replies as plain
use Rattle.model_machine.specs.Replies.{decides, reply}
use Rattle.model_machine.specs.State.{ResumePoint, State}
use Rattle.model_machine.specs.Went.{answers_in}
use Rattle.law_reach.proofs.Opened.{decides_comes, reply_comes}
use Rattle.law_reach.proofs.Rows.{in_answer, in_callback, in_turn}
use Rattle.law_reach.specs.Asked.{IsAnswered, asks_in}
use Rattle.law_reach.specs.Reaches.{ComesTo, InAnswer, InRun}
use Rattle.aio_exchange.proofs.Among.{asks-append}
use Rattle.aio_exchange.specs.Among.{AreTold, asks_among}
use Rattle.aio_exchange.specs.Exchanged.{All}
use Rattle.aio_extra.specs.Added.{Added}
use Rattle.aio_body.specs.declared.run_state.RunState.{RunState}
use Rattle.aio_body.specs.declared.reply.RequestReply.{RequestReply}
use Rattle.aio_body.specs.declared.reply.RequestReply.TheVariants as said
use Rattle.aio_body.specs.Asked.{IsInStep, Says}
use Rattle.aio_body.specs.Asking.{EventsGrow}
use Rattle.aio_body.specs.Stands.{Context}
use Rattle.aio_body.proofs.Growing.{IsRowOn, row_on}
use Rattle.aio_body.proofs.Noting.{answers-append}

-- ---- events
turns-append : (xs ys : List Event) → asks_in (xs ++ ys) ≡ asks_in xs + asks_in ys
turns-append [] ys = omega arith
turns-append (event.Called call ∷ xs) ys = let ih = turns-append xs ys in omega (arith, ih)
turns-append (event.Got answer ∷ xs) ys = turns-append xs ys
turns-append (event.Ran action ∷ xs) ys = turns-append xs ys
turns-append (event.Said task text ∷ xs) ys = turns-append xs ys

none_among : (events : List Event) → asks_in events ≡ 0 → answers_in events ≡ 0 → asks_among events ≡ []
none_among [] asks answers = refl
none_among (event.Called call ∷ events) asks answers = absurd (omega (arith, asks))
none_among (event.Got answer ∷ events) asks answers = absurd (omega (arith, answers))
none_among (event.Ran action ∷ events) asks answers = none_among events asks answers
none_among (event.Said task text ∷ events) asks answers = none_among events asks answers

-- ---- in code
cancel_nil : (xs ys : List Event) → xs ++ ys ≡ xs → ys ≡ []
cancel_nil xs ys e = append_cancel_left xs ys [] (e ∙ sym (append-nil xs))

-- events that stand for the machine's go on as these do
pub told_so : (past old new was is : List Event) → was ≡ past ++ old → is ≡ past ++ new → EventsGrow was is → asks_among is ≡ asks_among was
    → AreTold [] All old new
told_so past old new was is before after goes same = record {
  more = goes.0;
  adds =
      append_cancel_left past new (old ++ goes.0)
      (sym after ∙ goes.1 ∙ ap (λ (es : List Event). es ++ goes.0) before ∙ append_assoc past old goes.0);
  tells = cancel_nil (asks_among was) (asks_among goes.0) (sym (asks-append was goes.0) ∙ sym (ap asks_among goes.1) ∙ same);
}

-- Each call takes an answer. So what left the answers as they were asked nothing, whatever is open.
pub even_told : {S : Type 0} (past old new : List Event) (s t : State S) → InRun s t → IsAnswered s t → t.answers ≡ s.answers → s.events ≡ past ++ old
    → t.events ≡ past ++ new → AreTold [] All old new
even_told past old new s t row answered left before after =
    told_so past old new s.events t.events before after on.0
    (ap asks_among on.0.1 ∙ asks-append s.events on.0.0 ∙ ap (λ (es : List Event). asks_among s.events ++ es) (none_among on.0.0 no_asks no_answers)
    ∙ append-nil (asks_among s.events))
  where
    on : IsRowOn s t
    on = row_on s t row

    no_asks : asks_in on.0.0 ≡ 0
    no_asks =
        let more = ap asks_in on.0.1 ∙ turns-append s.events on.0.0 in
        let same = ap length left in
        omega (arith, more, same, answered)

    no_answers : answers_in on.0.0 ≡ 0
    no_answers =
        let more = ap answers_in on.0.1 ∙ answers-append s.events on.0.0 in
        let same = ap length left in
        let had = on.1 in
        omega (arith, more, same, had)

module _ {X : Type 0} {a : Added X} (task : ℕ) (c : Context a) (new : RunState X) where
  module _ (old : RunState X) (s : State a.Kept) (h : IsInStep task c old s) where
    told_in : (now : State a.Kept) → InAnswer a.meaning (Some task) s now → IsAnswered s now → now.answers ≡ c.answers
        → now.events ≡ c.past ++ new.events.events → AreTold [] All old.events.events new.events.events
    told_in now row answered left told =
        even_told c.past old.events.events new.events.events s now
        (in_turn a.meaning (in_callback a.meaning (in_answer a.meaning row))) answered (left ∙ sym h.stands.rest) h.stands.events told

    told_by : (it : RequestReply) (machine : plain.RequestReply a.Kept) → ComesTo a.meaning (Some task) s machine → Says task c new it machine
        → AreTold [] All old.events.events new.events.events
    told_by (said.Answers value) (plain.Answers v now) comes h = told_in now comes.reaches comes.asks h.1.stands.rest h.1.stands.events
    told_by (said.Raises fault) (plain.Raises f now) comes h = told_in now comes.reaches comes.asks h.1.stands.rest h.1.stands.events
    told_by said.Suspends (plain.Suspends now) comes h = told_in now comes.reaches comes.asks h.stands.rest h.stands.events
    told_by (said.Answers value) (plain.Raises f now) comes h = absurd h
    told_by (said.Answers value) (plain.Suspends now) comes h = absurd h
    told_by (said.Answers value) (plain.Halts e last) comes h = absurd h
    told_by (said.Raises fault) (plain.Answers v now) comes h = absurd h
    told_by (said.Raises fault) (plain.Suspends now) comes h = absurd h
    told_by (said.Raises fault) (plain.Halts e last) comes h = absurd h
    told_by said.Suspends (plain.Answers v now) comes h = absurd h
    told_by said.Suspends (plain.Raises f now) comes h = absurd h
    told_by said.Suspends (plain.Halts e last) comes h = absurd h

    -- a request that asks nothing
    pub reply_told : (it : RequestReply) (request : Request) → Says task c new it (reply a.meaning task request s)
        → AreTold [] All old.events.events new.events.events
    reply_told it request says = told_by it (reply a.meaning task request s) (reply_comes a.meaning task request s) says

    -- nor does what its wait came to
    pub decides_told : (it : RequestReply) (stood : ResumePoint) (input : Input) → Says task c new it (decides a.meaning stood task input s)
        → AreTold [] All old.events.events new.events.events
    decides_told it stood input says = told_by it (decides a.meaning stood task input s) (decides_comes a.meaning task stood input s) says
