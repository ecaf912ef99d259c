-- Scripts as they are written, and what a row compares of their runs: what was printed, how long each turn waited, and the
-- end.
use Rattle.std.specs.Prelude.{ℕ, zero, suc, List, [], ◌∷◌, ◌++◌, Option, Ok, Err, map}
use Rattle.std.specs.List.{flat_map}
use Rattle.model_value.specs.Value.{Value}
use Rattle.model_tree.specs.Syntax.{Program}
use Rattle.model_text.specs.Scripts.{script_of}
use Rattle.model_text.specs.SecondPass.{Judged}
use Rattle.model_wire.specs.declared.answer.Answer.TheVariants.{Turn}
use Rattle.model_wire.specs.declared.call.Call.TheVariants.{Select}
use Rattle.model_wire.specs.declared.event.Event.TheVariants as event
use Rattle.model_wire.specs.Event.{Event}
use Rattle.model_wire.specs.Journal.{Entry, Answered}
use Rattle.model_wire.specs.Trace.{End}
use Rattle.model_machine.specs.Replies.{most_ids, shown_all}
use Rattle.model_loop.specs.Ledger.{LedgerEntry}
use Rattle.model_machine.specs.Run.{Run, run_on}
use Rattle.model_program.specs.Added.{AddedState, added, first_added}
use Rattle.model_program.specs.Runs.{run}
use Rattle.model_machine.specs.State.{start}
use Rattle.model_machine.specs.Turn.{turn}
use Rattle.model_machine.specs.Went.{Went, Goes, state_of, went_on}
use Rattle.model_says.specs.Says.{step_limit}

abbrev pub no_program : Program
no_program = record { profile = 0; coroutines = [] }

abbrev pub program_in : Judged Program → Program
program_in (Ok program) = program
program_in (Err fault) = no_program

-- lines as one text, each with its newline
abbrev pub text : List (List ℕ) → List ℕ
text lines = flat_map (λ line. line ++ 10 ∷ []) lines

-- the program of a text
abbrev pub program_of : List ℕ → Program
program_of text = program_in (script_of text)

-- turns at these times
abbrev pub at : List ℕ → List Entry
at times = map (λ now. Answered (Turn now [])) times

-- a text that a task printed
pub record PrintedLine : Type 0 where
  pub task : ℕ
  pub text : List ℕ

abbrev pub prints : ℕ → List Value → PrintedLine
prints task values = record { task = task; text = shown_all values }

abbrev pub lines_of : List Event → List PrintedLine
lines_of [] = []
lines_of (event.Said task text ∷ events) = record { task = task; text = text } ∷ lines_of events
lines_of (_ ∷ events) = lines_of events

abbrev pub waits_of : List Event → List (Option ℕ)
waits_of [] = []
waits_of (event.Called (Select wait watch) ∷ events) = wait ∷ waits_of events
waits_of (_ ∷ events) = waits_of events

pub record Seen : Type 0 where
  pub lines : List PrintedLine
  pub waits : List (Option ℕ)
  pub end : End

abbrev pub seen_of : Run → Seen
seen_of it = record { lines = lines_of it.events; waits = waits_of it.events; end = it.end }

-- the run of a text over turns at these times
abbrev pub seen : List ℕ → List ℕ → Seen
seen text times = seen_of (run (program_of text) (at times) 1000)

-- the same where a step may begin so many statements
abbrev pub seen_within : ℕ → List ℕ → List ℕ → Seen
seen_within limit text times = seen_of (run_on limit added 1000 1000 (start most_ids first_added (program_of text) (at times)))

-- the state after so many turns, or as the run ends
abbrev pub turns : ℕ → Went AddedState → Went AddedState
turns zero went = went
turns (suc more) went = turns more (went_on (turn step_limit added) went)

-- what was booked by then
abbrev pub ledger_after : ℕ → List ℕ → List ℕ → List LedgerEntry
ledger_after count text times = (state_of (turns count (Goes (start most_ids first_added (program_of text) (at times))))).loop.ledger
