-- A turn whose select has its answer.
use Rattle.std.proofs.Common.{◌≡◌, false, true, Result, Ok, ◌∙◌, refl, sym, subst, arith}
use Rattle.model_wire.specs.Call.{Answer, Call}
use Rattle.model_wire.specs.Fits.{fits}
use Rattle.model_machine.specs.State.{State}
use Rattle.model_machine.specs.Turn.{call_of, is_stalled}
use Rattle.aio_wire.specs.EventList.{EventList}
use Rattle.aio_wire.specs.Outside.{Outside}
use Rattle.aio_wire.specs.Port.{PortAsked, ported}
use Rattle.aio_wire.specs.declared.stop.Stop.{Stop}
use Rattle.aio_exchange.proofs.OneAsk.{asks_one}
use Rattle.aio_exchange.specs.Exchanged.{AsksOne}
use Rattle.aio_extra.specs.Added.{Added}
use Rattle.aio_body.specs.declared.run_state.RunState.{RunState}
use Rattle.aio_body.specs.Asking.{Comes}
use Rattle.aio_body.specs.Stands.{IsBetween, Possible, Context}
use Rattle.aio_core.specs.declared.went.Went as code
use Rattle.aio_core.specs.Watched.{StandsOn}
use Rattle.aio_core.specs.Turning.{IsSelect, IsTime, StallsAs, TurnMade, resting, said_by, turning, turning_by}
use Rattle.aio_core.proofs.Asking.{HasGot, answered_so, failing_answered, got_alive, got_so}
use Rattle.aio_core.proofs.AskedByTurn.{asked_in, starved_in}
use Rattle.aio_core.proofs.Caused.{caused_in}
use Rattle.aio_core.proofs.Coming.{comes_to, still_so}
use Rattle.aio_core.proofs.Waking.{fits_time}

module _ {X W : Type 0} {a : Added X} (o : Outside W) (old held : RunState X) (on : StandsOn a old held) where
  -- nothing was told as the watch list was made
  pub asked_on : (call : Call) (was is : W) (new : EventList) (result : Result Answer Stop)
      → PortAsked o call (ported was held.events) (ported is new) result → PortAsked o call (ported was old.events) (ported is new) result
  asked_on call was is new result asked = subst (λ es. PortAsked o call (ported was es) (ported is new) result) on.events asked

module _ {X W : Type 0} (a : Added X) (o : Outside W) (old : RunState X) (call : Call)
    (is : (c : Context a) (s : State a.Kept) → IsBetween c old s → call ≡ call_of a.meaning s)
    (goes : (c : Context a) (s : State a.Kept) → IsBetween c old s → false ≡ is_stalled a.meaning s)
    (held : RunState X) (on : StandsOn a old held) (answer : Answer) (mid : RunState X)
    (frame : mid ≡ record held { events = mid.events }) (was at : W)
    (asked : PortAsked o call (ported was held.events) (ported at mid.events) (Ok answer)) where
  asks : PortAsked o call (ported was old.events) (ported at mid.events) (Ok answer)
  asks = asked_on o old held on call was at mid.events (Ok answer) asked

  got : HasGot old call is goes answer mid.events (o.seen was) (o.seen at)
  got = got_so old call is goes (Ok answer) answer mid.events (o.seen was) (o.seen at) refl asks.asks

  one : AsksOne o call (ported was old.events) (ported at mid.events) (Ok answer)
  one = asks_one o call (ported was old.events) (ported at mid.events) (Ok answer) asks

  -- what the rest of the turn may rely on
  pub alive_then : Possible a IsBetween old → Possible a IsBetween mid
  alive_then alive = subst (Possible a IsBetween) (sym frame) (got_alive old call is goes held on answer mid.events got.is_noted
      alive)

  pub time_then : IsSelect call → IsTime answer
  time_then shape = fits_time shape.0 shape.1.0 answer (subst (λ k. fits k answer ≡ true) shape.1.1 got.is_fit)

  -- what it comes to then
  module _ (new : RunState X) (last : W) (result : Result code.Went Stop)
      (turns : Comes o (turning_by a answer mid new) (ported at mid.events) (ported last new.events) result) where
    beside_so : Comes o (turning_by a answer (record held { events = mid.events }) new) (ported at mid.events)
        (ported last new.events) result
    beside_so = subst (λ (m : RunState X). Comes o (turning_by a answer m new) (ported at mid.events) (ported last new.events) result) frame turns

    whole : Comes o (turning a old new) (ported was old.events) (ported last new.events) result
    whole = answered_so old call is goes held on o was at answer mid.events one new last result beside_so

    pub made_then : Possible a IsBetween old → TurnMade a o was last old new (said_by result)
    made_then alive =
        let it = comes_to a o old new was last result whole alive in
        record {
          comes = it.0;
          stalls = λ past answers s h. subst (λ b. StallsAs b (said_by result)) (goes (resting a past answers h.0) s h.1) it.1.0;
          asked = asked_in a o old new was last result whole;
          starved = starved_in a o old new was last result whole;
          caused = caused_in a o old new was last result whole;
          alive = it.1.1;
          fails = λ fails. absurd (failing_answered call answer (asks.fails fails));
          keeps = o.keeps_on was at last asks.keeps turns.exchanged.keeps;
          quiet = still_so a o old new was last (o.quiet was last) result whole whole.exchanged.unchanged;
          stays =
              let first = asks.stays in
              let then_ = turns.exchanged.stays in
              (then_.0 ∙ first.0, omega (arith, first.1, then_.1));
        }
