-- A turn that made no call, and one whose select has no answer that fits.
use Rattle.std.proofs.Common.{◌≡◌, true, false, [], Err, length, refl, sym, subst, append-nil, arith}
use Rattle.model_wire.specs.Call.{Call}
use Rattle.model_machine.specs.State.{State}
use Rattle.model_machine.specs.Turn.{call_of, is_stalled}
use Rattle.aio_wire.specs.Outside.{Outside}
use Rattle.aio_wire.specs.Port.{PortAsked, ported}
use Rattle.aio_wire.specs.declared.stop.Stop.{Stop}
use Rattle.aio_wire.specs.declared.stop.Stop.TheVariants as stop
use Rattle.aio_extra.specs.Added.{Added}
use Rattle.aio_body.specs.declared.run_state.RunState.{RunState}
use Rattle.aio_body.specs.Stands.{IsBetween, Context}
use Rattle.aio_core.specs.declared.went.Went.TheVariants as went
use Rattle.aio_core.specs.Watched.{StandsOn}
use Rattle.aio_core.specs.Turning.{StallsAs, TurnMade, resting, stood_by, wire_turn}
use Rattle.aio_core.proofs.Answered.{asked_on}
use Rattle.aio_core.proofs.Asked.{asks_none, none_once}
use Rattle.aio_core.proofs.AskedByTurn.{once_starves, stop_asks, stop_starves}
use Rattle.aio_core.proofs.Asking.{failing_stopped, stalls_so, stalls_stopped, still_stopped, stops_so}
use Rattle.aio_core.proofs.Caused.{select_caused}

module _ {X W : Type 0} (a : Added X) (o : Outside W) (old : RunState X) (was : W) where
  -- nothing is pending and nothing can come
  pub made_stalled : ((c : Context a) (s : State a.Kept) → IsBetween c old s → true ≡ is_stalled a.meaning s)
      → TurnMade a o was was old old went.Stalled
  made_stalled is = record {
    comes = stalls_so old (o.seen was) is;
    stalls = λ past answers s h. sym (is (resting a past answers h.0) s h.1);
    asked = λ past answers s h. ([], (sym (append-nil old.events.events), asks_none (o.seen was)));
    starved = λ past answers s h. tt;
    caused = λ past answers s h. tt;
    alive = tt;
    fails = λ fails. tt;
    keeps = o.keeps_same was;
    quiet = o.quiet_same was;
    stays = (refl, omega arith);
  }

  -- memory was refused before the call
  pub made_starved : (new : RunState X) → TurnMade a o was was old new (went.Stopped stop.Memory)
  made_starved new = record {
    comes = tt;
    stalls = λ past answers s h. tt;
    asked = λ past answers s h. tt;
    starved = λ past answers s h. once_starves a old (wire_turn o was was) (none_once (o.seen was));
    caused = λ past answers s h. tt;
    alive = tt;
    fails = λ fails. tt;
    keeps = o.keeps_same was;
    quiet = o.quiet_same was;
    stays = (refl, omega arith);
  }

  -- the call has no answer that fits
  pub made_stopped : (call : Call) → ((c : Context a) (s : State a.Kept) → IsBetween c old s → call ≡ call_of a.meaning s)
      → ((c : Context a) (s : State a.Kept) → IsBetween c old s → false ≡ is_stalled a.meaning s) → (held : RunState X) → StandsOn a old held
      → (new : RunState X) (is : W) (why : Stop) → PortAsked o call (ported was held.events) (ported is new.events) (Err why)
      → TurnMade a o was is old new (went.Stopped why)
  made_stopped call calls goes held on new is why asked =
      let asks = asked_on o old held on call was is new.events (Err why) asked in
      record {
        comes = stops_so old call calls goes new.events (o.seen was) (o.seen is) (Err why) why refl asks.asks (stood_by a new)
            (length new.slots.items);
        stalls = λ past answers s h. subst (λ b. StallsAs b (went.Stopped why)) (goes (resting a past answers h.0) s h.1) (stalls_stopped why);
        asked = λ past answers s h. stop_asks call old.events new.events (o.seen was) (o.seen is) (Err why) why refl asks.asks;
        starved = λ past answers s h. stop_starves a old call new.events (wire_turn o was is) (Err why) why refl asks.asks;
        caused = λ past answers s h. select_caused call old.events new.events (o.seen was) (o.seen is) (Err why) why refl asks.asks;
        alive = tt;
        fails = λ fails. failing_stopped call why (asks.fails fails);
        keeps = asks.keeps;
        quiet = still_stopped (o.quiet was is) why asks.quiet;
        stays = asks.stays;
      }
