-- Scripts and journals as texts, and all that happens in their runs.
use Rattle.std.specs.Prelude.{ℕ, List, [], ◌∷◌, ◌++◌, Some, codes}
use Rattle.model_value.specs.Value.{Nothing, exception_of}
use Rattle.model_value.specs.declared.kind.Kind.TheVariants.{OSError}
use Rattle.model_value.specs.declared.action.Action.TheVariants.{Step, MainDone}
use Rattle.model_wire.specs.declared.answer.Answer.TheVariants.{Done, Eof, Refused, Turn}
use Rattle.model_wire.specs.declared.call.Call.TheVariants.{Listen, Select}
use Rattle.model_wire.specs.declared.event.End.TheVariants as end
use Rattle.model_wire.specs.declared.event.Event.TheVariants.{Called, Got, Ran, Said}
use Rattle.model_wire.specs.declared.watch.Watch.TheVariants.{Server}
use Rattle.model_wire.specs.Call.{Call}
use Rattle.model_wire.specs.Event.{Event}
use Rattle.model_wire.specs.JournalText.{entries_of}
use Rattle.model_machine.specs.Run.{Run}
use Rattle.model_program.specs.Runs.{run}
use Rattle.row_machine.specs.Reading.{program_of, text}
use Rattle.row_machine.specs.Turns.{hello_text}

-- the run of a script over a journal
abbrev pub over : List ℕ → List (List ℕ) → Run
over script journal = run (program_of script) (entries_of (text journal)) 1000

-- that of the script that prints `hi`, of at most so many turns
abbrev pub hello_over : List (List ℕ) → ℕ → Run
hello_over journal turns = run (program_of hello_text) (entries_of (text journal)) turns

abbrev pub at_once : Call
at_once = Select (Some 0) []

abbrev pub first_turn : List Event
first_turn = Called at_once ∷ Got (Turn 0 []) ∷ Ran (Step 0) ∷ Said 0 (codes "hi") ∷ []

abbrev pub whole : Run
whole = record { events = first_turn ++ Called at_once ∷ Got (Turn 0 []) ∷ Ran MainDone ∷ []; end = end.Returned Nothing }

abbrev pub out_of_turns : Run
out_of_turns = record { events = first_turn; end = end.Turns 1 }

abbrev pub out_of_answers : Run
out_of_answers = record { events = first_turn ++ Called at_once ∷ []; end = end.Over at_once }

abbrev pub at_refused : Run
at_refused = record { events = first_turn ++ Called at_once ∷ []; end = end.JournalRefused 2 1 }

-- an answer that doesn't fit its call is told, and counts
abbrev pub misfit : Run
misfit = record { events = first_turn ++ Called at_once ∷ Got Eof ∷ []; end = end.Mismatch 2 at_once }

-- ---- scripts of connections
abbrev pub first_step : List Event
first_step = Called at_once ∷ Got (Turn 0 []) ∷ Ran (Step 0) ∷ []

-- a request that is never reached asks nothing
abbrev pub never_asked : Run
never_asked =
    record { events = first_step ++ Called at_once ∷ Got (Turn 0 []) ∷ Ran MainDone ∷ []; end = end.Returned Nothing }

-- a listener is asked for in the middle of main's step, and watched by the next turn
abbrev pub listened : Run
listened =
    record {
      events =
          first_step
          ++ Called (Listen 5) ∷ Got Done
          ∷ Called (Select (Some 0) (Server 0 ∷ [])) ∷ Got (Turn 0 []) ∷ Ran MainDone ∷ [];
      end = end.Returned Nothing;
    }

-- one that is refused is none
abbrev pub listening_refused : Run
listening_refused =
    record {
      events =
          first_step
          ++ Called (Listen 5) ∷ Got Refused ∷ Called at_once ∷ Got (Turn 0 []) ∷ Ran MainDone ∷ [];
      end = end.Raised (exception_of OSError (codes "listen refused"));
    }

abbrev pub asks_deep_inside : List ℕ
asks_deep_inside =
    text
    (codes "def main()"
    ∷ codes "  try"
    ∷ codes "    pass"
    ∷ codes "  except OSError"
    ∷ codes "    while True"
    ∷ codes "      with group as g"
    ∷ codes "        yield from connect(5)"
    ∷ codes "      end"
    ∷ codes "    end"
    ∷ codes "  end"
    ∷ codes "end" ∷ [])

abbrev pub listens : List ℕ
listens =
    text
    (codes "def serve(c)"
    ∷ codes "end"
    ∷ codes "def main()"
    ∷ codes "  yield from listen(5, serve)"
    ∷ codes "end" ∷ [])
