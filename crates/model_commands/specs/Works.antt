-- What the work of a seed writes: one line, with how much the run of its script did.
use Rattle.std.specs.Prelude.{◌≡◌, ℕ, zero, suc, ◌-◌, ◌^◌, Bool, true, false, List, ◌++◌, Ok, codes, min, if◌then◌else◌}
use Rattle.std.specs.Fmt.{decimal}
use Rattle.std.specs.List.{count_by}
use Rattle.model_tree.specs.Syntax.{Program}
use Rattle.model_text.specs.Scripts.{script_of}
use Rattle.model_says.specs.Says.{step_limit}
use Rattle.model_wire.specs.declared.event.End.TheVariants as end
use Rattle.model_wire.specs.declared.event.Event.TheVariants as event
use Rattle.model_wire.specs.Event.{Event}
use Rattle.model_wire.specs.Journal.{Entry}
use Rattle.model_wire.specs.JournalText.{entries_of}
use Rattle.model_wire.specs.Trace.{End, line}
use Rattle.model_loop.specs.Tasks.{next_task}
use Rattle.model_machine.specs.Extra.{Extra}
use Rattle.model_machine.specs.Replies.{most_ids}
use Rattle.model_machine.specs.State.{State, start}
use Rattle.model_machine.specs.Turn.{turn}
use Rattle.model_machine.specs.Went.{Went, Goes, Stops}
use Rattle.model_program.specs.Added.{added, first_added}
use Rattle.model_program.specs.Runs.{run, run_over}
use Rattle.model_program.specs.Transcript.{status_of}
use Rattle.model_program.specs.Written.{ProgramOutput}
use Rattle.model_words.specs.Words.{most_turns}
use Rattle.model_work.specs.Work as work

-- ---- what is counted of a run
abbrev pub is_call : Event → Bool
is_call (event.Called call) = true
is_call (event.Got answer) = false
is_call (event.Ran action) = false
is_call (event.Said task text) = false

-- a line that a task printed
abbrev pub is_said : Event → Bool
is_said (event.Called call) = false
is_said (event.Got answer) = false
is_said (event.Ran action) = false
is_said (event.Said task text) = true

-- a count that has reached the last value of its type stands still
abbrev pub counted : ℕ → ℕ
counted count = min count (2 ^ 64 - 1)

-- how many tasks were made, main among them
abbrev pub tasks_in : {S : Type 0} → State S → ℕ
tasks_in s = next_task s.loop.parts

-- whether main's outcome ends a run
abbrev pub is_outcome : End → Bool
is_outcome (end.Returned value) = true
is_outcome (end.Raised fault) = true
is_outcome end.Cancelled = true
is_outcome _ = false

-- A turn that ends the run in another way may be cut short: the tasks are then those that were made before it.
abbrev pub tasks_after : {S : Type 0} → (State S → ℕ) → (before : ℕ) → Went S → ℕ
tasks_after go_on before (Goes now) = go_on now
tasks_after go_on before (Stops end last) = if is_outcome end then tasks_in last else before

module _ {S : Type 0} (limit : ℕ) (added : Extra S) where
  -- how many tasks a run has made in the end that goes on from a state, with so many turns left
  unfoldable pub tasks_on : (left : ℕ) → State S → ℕ
  tasks_on zero s = tasks_in s
  tasks_on (suc left) s = tasks_after (tasks_on left) (tasks_in s) (turn limit added s)

-- tasks that were made, calls that were asked, and lines that were printed
pub record Counts : Type 0 where
  pub tasks : ℕ
  pub calls : ℕ
  pub said : ℕ

-- those of a program's run, where this is added to the loop's own requests, and keeps this as the run begins
abbrev pub counts_over : {S : Type 0} → Extra S → (first : S) → Program → List Entry → (allowed : ℕ) → Counts
counts_over extra first program answers allowed =
    record {
      tasks = tasks_on step_limit extra allowed (start most_ids first program answers);
      calls = counted (count_by is_call (run_over extra first program answers allowed).events);
      said = counted (count_by is_said (run_over extra first program answers allowed).events);
    }

-- with what the program adds
abbrev pub counts_of : Program → List Entry → (allowed : ℕ) → Counts
counts_of program answers allowed = counts_over added first_added program answers allowed

-- ---- what is written of them
abbrev pub counts_text : Counts → List ℕ
counts_text it = codes "tasks " ++ decimal it.tasks ++ codes ", calls " ++ decimal it.calls ++ codes ", said " ++ decimal it.said

abbrev pub work_text : (seed : ℕ) → Counts → List ℕ
work_text seed it = codes "work " ++ decimal seed ++ codes ": " ++ counts_text it

-- the line, and the exit status of the run
abbrev pub worked : (seed : ℕ) → Program → (answers : List Entry) → ProgramOutput
worked seed program answers = record {
  text = line (work_text seed (counts_of program answers most_turns));
  status = status_of (run program answers most_turns).end;
}

-- The seed's script runs over the seed's journal, of as many turns as may be allowed.
abbrev pub MayWork : (seed : ℕ) → ProgramOutput → Type 0
MayWork seed output =
    (program : Program) × (script_of (work.script seed) ≡ Ok program) × (output ≡ worked seed program (entries_of work.journal))
