-- Where a call in code had no answer that fits, the machine ends the run by the same stop.
use Rattle.std.proofs.Common.{◌≡◌, List, [], ◌∷◌, ◌++◌, ◌∙◌, refl, sym, ap, subst}
use Rattle.model_wire.specs.declared.event.End.TheVariants as end
use Rattle.model_wire.specs.declared.event.Event.TheVariants as event
use Rattle.model_wire.specs.Call.{Answer, Call}
use Rattle.model_wire.specs.Event.{Event}
use Rattle.model_wire.specs.Journal.{Entry, Refused}
use Rattle.model_wire.specs.Trace.{End}
use Rattle.model_stream.specs.Doing.{Doing, Asks}
use Rattle.model_machine.specs.Does.{does}
use Rattle.model_machine.specs.State.{State}
use Rattle.model_machine.specs.Went.{answers_in}
use Rattle.aio_wire.specs.EventList.{EventList}
use Rattle.aio_wire.specs.Events.{pushed}
use Rattle.aio_wire.specs.Port.{events_after}
use Rattle.aio_wire.specs.declared.stop.Stop.{Stop}
use Rattle.aio_wire.specs.declared.wire.Reply.{Reply}
use Rattle.aio_wire.specs.declared.wire.Reply.TheVariants as reply
use Rattle.aio_exchange.specs.Among.{told_by}
use Rattle.aio_exchange.specs.Exchanged.{AllFit, IsNoAnswer, Met, StopsAs, entries_of, noted_by}
use Rattle.aio_exchange.specs.Ways.{Leads, Move, had_on}
use Rattle.aio_body.specs.Asking.{EndsAs, RestFits, StopsWith}
use Rattle.refine_streams.specs.Along.{called_on, heard_on}
use Rattle.refine_streams.proofs.Doing.{does_misfit, does_over, does_refused}
use Rattle.refine_streams.specs.Passed.{IsNoted}
use Rattle.refine_streams.proofs.Noted.{noted_had, noted_one}

module _ {S A M : Type 0} (ends : End → State S → M) (next : A → State S → M) (tree : Doing A) (way : List Move) (call : Call) (rest : Answer → Doing A)
    (leads : Leads tree way (Asks call rest)) (fit : AllFit (had_on way)) (past : List Event) (old new : EventList) (left : List Entry) (s : State S)
    (noted : IsNoted past old s.events) (answers : s.answers ≡ entries_of (had_on way) ++ left) where
  abbrev mid : EventList
  mid = noted_by (had_on way) old

  called : (es : List Entry) → IsNoted past (pushed mid (event.Called call)) (called_on way call es s).events
  called es = noted_one past mid (s.events ++ told_by (had_on way)) (event.Called call) (noted_had (had_on way) past old s.events noted)

  heard : (answer : Answer) (es : List Entry) → IsNoted past (events_after mid call (reply.Got answer)) (heard_on way call answer es s).events
  heard answer es = noted_one past (pushed mid (event.Called call)) (called_on way call es s).events (event.Got answer) (called es)

  left_is : (es : List Entry) → left ≡ es → s.answers ≡ entries_of (had_on way) ++ es
  left_is es e = answers ∙ ap (λ (xs : List Entry). entries_of (had_on way) ++ xs) e

  pub stops_with : (said : Reply) (why : Stop) → IsNoAnswer call said → new ≡ events_after mid call said → StopsAs (Met call said) new.answers why
      → RestFits (Met call said) left → StopsWith ends why past new.events (does ends tree next s)
  stops_with (reply.Got answer) why none is so fits =
      let told = subst (λ (l : EventList). IsNoted past l (heard_on way call answer fits.0 s).events) (sym is) (heard answer fits.0) in
      record {
        end = end.Mismatch (answers_in (heard_on way call answer fits.0 s).events) call;
        last = heard_on way call answer fits.0 s;
        way =
            subst (λ w. EndsAs w (end.Mismatch (answers_in (heard_on way call answer fits.0 s).events) call) (heard_on way call answer fits.0 s)) (sym so)
            (refl, told.count);
        stops = does_misfit ends next tree way call rest s leads fit answer fits.0 (left_is _ fits.1) none;
        told = told.told;
      }
  stops_with reply.Over why none is so fits = record {
    end = end.Over call;
    last = called_on way call [] s;
    way = subst (λ w. EndsAs w (end.Over call) (called_on way call [] s)) (sym so) refl;
    stops = does_over ends next tree way call rest s leads fit (left_is [] fits);
    told = (subst (λ (l : EventList). IsNoted past l (called_on way call [] s).events) (sym is) (called [])).told;
  }
  stops_with (reply.Bad fault) why none is so fits = record {
    end = end.JournalRefused fault.line fault.cause;
    last = called_on way call (Refused fault.line fault.cause ∷ fits.0) s;
    way =
        subst (λ w. EndsAs w (end.JournalRefused fault.line fault.cause) (called_on way call (Refused fault.line fault.cause ∷ fits.0) s)) (sym so) refl;
    stops = does_refused ends next tree way call rest s leads fit fault.line fault.cause fits.0 (left_is _ fits.1);
    told =
        (subst (λ (l : EventList). IsNoted past l (called_on way call (Refused fault.line fault.cause ∷ fits.0) s).events) (sym is)
        (called (Refused fault.line fault.cause ∷ fits.0))).told;
  }
  stops_with reply.Failed why none is so fits = record {
    end = end.Over call;
    last = called_on way call [] s;
    way = subst (λ w. EndsAs w (end.Over call) (called_on way call [] s)) (sym so) refl;
    stops = does_over ends next tree way call rest s leads fit (left_is [] fits);
    told = (subst (λ (l : EventList). IsNoted past l (called_on way call [] s).events) (sym is) (called [])).told;
  }
