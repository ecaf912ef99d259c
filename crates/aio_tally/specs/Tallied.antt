-- What is counted of a run, and of a turn.
use Rattle.std.specs.Prelude.{◌≡◌, ℕ, ◌+◌, ◌^◌, ◌<◌, List, [], ◌++◌, Option, Result}
use Rattle.std.specs.List.{count_by}
use Rattle.model_tree.specs.Syntax.{Program}
use Rattle.model_wire.specs.Event.{Event}
use Rattle.model_wire.specs.Journal.{Entry}
use Rattle.model_wire.specs.Told.{Agrees, WireSeen}
use Rattle.model_machine.specs.Extra.{Extra}
use Rattle.model_machine.specs.Run.{turns_over}
use Rattle.model_machine.specs.State.{State}
use Rattle.model_machine.specs.Turn.{is_stalled}
use Rattle.model_program.specs.Runs.{run_over}
use Rattle.model_program.specs.Transcript.{status_of}
use Rattle.model_commands.specs.Works as plain
use Rattle.model_commands.specs.Works.{counted, counts_over, is_call, is_said, tasks_in}
use Rattle.aio_extra.specs.Added.{Added}
use Rattle.aio_core.specs.Turned.{KernelStandsFor, TurnedBy, held_tasks, untaken}
use Rattle.aio_core.specs.Turning.{WireTurn}
use Rattle.aio_core.specs.declared.kernel.Kernel.{Kernel}
use Rattle.aio_core.specs.declared.went.Went.{Went}
use Rattle.aio_tally.specs.Ending.{status_by, tasks_by}
use Rattle.aio_tally.specs.declared.counts.Counts.{Counts}
use Rattle.aio_tally.specs.declared.ending.Uncounted.{Uncounted}
use Rattle.aio_tally.specs.declared.tallying.Tally.{Tally}

abbrev pub plain_counts : Counts → plain.Counts
plain_counts it = record { tasks = it.tasks; calls = it.calls; said = it.said }

-- A program's whole run, over entries that agree with what the wire told, has these counts and this status, where this is added to the
-- loop's own requests, and keeps this as the run begins.
abbrev pub Tallies : {S : Type 0} → Extra S → (first : S) → Program → (turns : ℕ) → WireSeen → Tally → Type 0
Tallies added first program turns seen it =
    (entries : List Entry) × Agrees seen.left entries × (plain_counts it.counts ≡ counts_over added first program entries turns)
    × (it.status ≡ status_of (run_over added first program entries turns).end)

-- A turn was made, its events were taken out, and what it did was counted. `mid` is the kernel after the turn, whose events weren't taken
-- out yet; `went` is what the turn answered, and `said` what it came to. There were so many tasks `before` it, and `after` it.
pub record CountsTurn {X : Type 0} {g : _} (a : Added X) (wire : WireTurn) (old new : Kernel X g) (was is : Counts)
    (result : Result (Option ℕ) Uncounted) : Type 0 where
  pub mid : Kernel X g
  pub went : Went
  pub said : Went
  pub turned : TurnedBy a wire old mid went said
  pub stands : (past : List Event) (answers : List Entry) (s : State a.Kept) → KernelStandsFor a past answers mid s
      → KernelStandsFor a (past ++ untaken mid) answers new s
  pub left : untaken new ≡ []
  pub calls : is.calls ≡ counted (was.calls + count_by is_call (untaken mid))
  pub lines : is.said ≡ counted (was.said + count_by is_said (untaken mid))
  pub before : ℕ
  pub made : (past : List Event) (answers : List Entry) (s : State a.Kept) → KernelStandsFor a past answers old s
      → before ≡ tasks_in s
  pub after : ℕ
  pub held : held_tasks mid < 2 ^ 32 → after ≡ held_tasks mid
  pub tasks : is.tasks ≡ tasks_by went before after
  pub status : result ≡ status_by went

-- the status of a run that may make no further turn
abbrev pub EndsAtLimit : {X : Type 0} {g : _} → Added X → Kernel X g → (status : ℕ) → Type 0
EndsAtLimit a kernel status =
    (turns : ℕ) (past : List Event) (answers : List Entry) (s : State a.Kept) → KernelStandsFor a past answers kernel s
    → status ≡ status_of (turns_over (is_stalled a.meaning s) turns)
