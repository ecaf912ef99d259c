-- A tree of streams only adds events, and so does what comes after it.
use Rattle.std.proofs.Common.{◌≡◌, Bool, true, false, List, [], ◌∷◌, ◌++◌, sym, subst}
use Rattle.model_wire.specs.declared.event.End.TheVariants as end
use Rattle.model_wire.specs.declared.event.Event.TheVariants as event
use Rattle.model_wire.specs.Call.{Answer, Call}
use Rattle.model_wire.specs.Event.{Event}
use Rattle.model_wire.specs.Fits.{fits}
use Rattle.model_wire.specs.Journal.{Entry, Answered, Refused}
use Rattle.model_wire.specs.Trace.{End}
use Rattle.model_stream.specs.Doing.{Doing, Ends, Changes, Asks}
use Rattle.model_machine.specs.Does.{changed, does}
use Rattle.model_machine.specs.State.{State, noted, unbooked_in}
use Rattle.model_machine.specs.Went.{answered_so, answers_in, fitted_so}
use Rattle.aio_exchange.specs.Among.{told_by}
use Rattle.aio_exchange.specs.Exchanged.{AllFit, entries_of}
use Rattle.aio_exchange.specs.Ways.{Leads, Move, had_on}
use Rattle.law_runs.proofs.Counts.{goes_on_one, goes_on_then}
use Rattle.refine_streams.specs.Along.{along}
use Rattle.refine_streams.proofs.Doing.{does_along}
use Rattle.aio_body.specs.Asking.{EventsGrow}
use Rattle.refine_streams.specs.Alike.{AddsEvents}

module _ {S M : Type 0} (ends : End → State S → M) (left : M → State S) (halts : (end : End) (last : State S) → left (ends end last) ≡ last) where
  ended : (how : End) (events : List Event) (last : State S) → EventsGrow events last.events → EventsGrow events (left (ends how last)).events
  ended how events last goes = subst (λ (t : State S). EventsGrow events t.events) (sym (halts how last)) goes

  -- an ask, whatever the outside has left
  asked_adds : (call : Call) (next : Answer → State S → M) (s : State S) → ((answer : Answer) → AddsEvents left (next answer))
      → (entries : List Entry) → EventsGrow s.events (left (answered_so ends entries call next (noted (event.Called call) s))).events
  asked_adds call next s each [] = ended (end.Over call) s.events (noted (event.Called call) s) (goes_on_one s.events (event.Called call))
  asked_adds call next s each (Refused line cause ∷ entries) =
      ended (end.JournalRefused line cause) s.events (noted (event.Called call) s) (goes_on_one s.events (event.Called call))
  asked_adds call next s each (Answered answer ∷ entries) = at (fits call answer)
    where
      heard : State S
      heard = noted (event.Got answer) (record (noted (event.Called call) s) { answers = entries })

      two : EventsGrow s.events heard.events
      two =
          goes_on_then s.events (noted (event.Called call) s).events heard.events (goes_on_one s.events (event.Called call))
          (goes_on_one (noted (event.Called call) s).events (event.Got answer))

      at : (fit : Bool) → EventsGrow s.events (left (fitted_so ends fit call answer next heard)).events
      at true = goes_on_then s.events heard.events (left (next answer heard)).events two (each answer heard)
      at false = ended (end.Mismatch (answers_in heard.events) call) s.events heard two

  module _ {A : Type 0} (next : A → State S → M) (adds : (it : A) → AddsEvents left (next it)) where
    pub tree_adds : (tree : Doing A) (s : State S) → EventsGrow s.events (left (does ends tree next s)).events
    tree_adds (Ends it) s = adds it s
    tree_adds (Changes change rest) s = tree_adds rest (unbooked_in (changed change) s)
    tree_adds (Asks call rest) s =
        asked_adds call (λ answer. does ends (rest answer) next) s (λ answer t. tree_adds (rest answer) t) s.answers

    -- What was asked along its way begins what is left.
    pub way_adds : (tree rest : Doing A) (way : List Move) (s : State S) (entries : List Entry) → Leads tree way rest → AllFit (had_on way)
        → s.answers ≡ entries_of (had_on way) ++ entries
        → EventsGrow (s.events ++ told_by (had_on way)) (left (does ends tree next s)).events
    way_adds tree rest way s entries leads fit answers =
        subst (λ (it : M). EventsGrow (s.events ++ told_by (had_on way)) (left it).events)
        (sym (does_along ends next way tree rest s entries leads fit answers)) (tree_adds rest (along way entries s))
