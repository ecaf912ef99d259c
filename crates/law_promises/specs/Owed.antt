-- What timeouts and groups owe to a task's count: each that asked for the task's cancel may take that back. The count is at least
-- what is owed, where nobody else took of it.
use Rattle.std.specs.Prelude.{◌≡◌, ℕ, ◌+◌, ◌≤◌, ◌<◌, ◌==◌, Bool, true, false, not, ◌&&◌, List, [], ◌∷◌, ◌++◌, length}
use Rattle.std.specs.List.{count_by, list_any}
use Rattle.model_loop.specs.Futures.{next_future}
use Rattle.model_loop.specs.Ledger.{Origin, ByScript, ByExtra, LedgerEntry, Took}
use Rattle.model_loop.specs.Loop.{TimeoutState, Expiring, Timeout, Group, Loop}
use Rattle.model_loop.specs.Parts.{Profile, One, Two}
use Rattle.model_loop.specs.Tasks.{cancelling, future_of, lives, next_task}
use Rattle.model_machine.specs.Replies.{most_ids}

-- ---- the ledger from its beginning
-- a script, or what serves further requests
abbrev pub is_by_hand : Origin → Bool
is_by_hand (ByScript task) = true
is_by_hand (ByExtra key) = true
is_by_hand _ = false

-- whether an entry is an `uncancel` of the task by one of them
abbrev pub uncancels : (task : ℕ) → LedgerEntry → Bool
uncancels task (Took other by lowered) = (other == task) && is_by_hand by
uncancels task _ = false

-- what an entry needs of those before it
abbrev pub IsFound : (before : List LedgerEntry) → LedgerEntry → Type 0
IsFound before (Took task by false) = is_by_hand by ≡ false → list_any (uncancels task) before ≡ true
IsFound before _ = Unit {0}

abbrev pub AreFound : (before entries : List LedgerEntry) → Type 0
AreFound before [] = Unit {0}
AreFound before (entry ∷ entries) = IsFound before entry × AreFound (before ++ entry ∷ []) entries

-- ---- what is owed
abbrev pub is_expiring : TimeoutState → Bool
is_expiring Expiring = true
is_expiring _ = false

-- whether this timeout, or this group, asked for the task's cancel and may take that back
abbrev pub owes_timeout : ℕ → Timeout → Bool
owes_timeout task it = is_expiring it.state && (it.task == task)

-- whether a group is past the point at which it takes its request back: the beginning of its exit, or the end of it
abbrev pub takes_no_more : Profile → Group → Bool
takes_no_more profile it = elim profile [ One ↦ it.exiting | Two ↦ it.ended ]

abbrev pub owes_group : Profile → ℕ → Group → Bool
owes_group profile task it = it.entered && (it.requested && (not (takes_no_more profile it) && (it.parent == task)))

abbrev pub owed : Loop → ℕ → ℕ
owed l task = count_by (owes_timeout task) l.timeouts + count_by (owes_group l.profile task) l.groups

-- it is covered by the count of each task that lives, and each entry of the ledger has what it needs
pub record IsCovered (l : Loop) : Type 0 where
  pub timeouts_few : length l.timeouts ≤ most_ids
  pub groups_few : length l.groups ≤ most_ids
  pub covered : (task : ℕ) → lives l.parts task ≡ true → list_any (uncancels task) l.ledger ≡ false → owed l task ≤ cancelling l.parts task
  pub found : AreFound [] l.ledger

-- each task's future was made, and nothing is owed to a task that wasn't
pub record IsRight (l : Loop) : Type 0 where
  pub made : (task : ℕ) → task < next_task l.parts → future_of l.parts task < next_future l.parts
  pub fresh : (task : ℕ) → next_task l.parts ≤ task → owed l task ≡ 0
