-- What the calls of jobs beside the loop come to, by the view of the loop's parts.
use Rattle.std.specs.Prelude.{◌≡◌, ℕ, Bool, ◌&&◌, List, is_none, length, nat_lt, slice_get}
use Rattle.std.specs.List.{list_all}
use Rattle.model_loop.specs.Owning.{owner_at}
use Rattle.model_loop.specs.Parts.{Future}
use Rattle.model_machine.specs.Extra as extra
use Rattle.model_machine.specs.Extra.{ExtraAnswer, ExtraCall, ExtraSaid}
use Rattle.model_exec.specs.Execed.{Execed, exec_keeps}
use Rattle.aio_task.specs.Keeps.{Known}
use Rattle.aio_task.specs.View.{View}
use Rattle.aio_extra.specs.declared.asked.Asked.{Asked}
use Rattle.aio_extra.specs.declared.asked.Asked.TheVariants.{Answer, Raise, Wait, Outside}
use Rattle.refine_added.specs.Seen.{SeesAll}
use Rattle.aio_exec.specs.declared.exec.Exec.{Exec}

-- what the machine keeps of it
abbrev pub kept_of : Exec → Execed
kept_of x =
    record {
      drawn = x.requests.drawn;
      standing = x.requests.standing;
      accepted = x.jobs.accepted;
      going = x.jobs.going;
    }

-- its futures
abbrev pub own_of : Exec → List ℕ
own_of x = (exec_keeps (kept_of x)).own

-- such a future was made, and is no task's
abbrev pub is_free : List Future → ℕ → Bool
is_free futures id = nat_lt id (length futures) && is_none (owner_at (slice_get futures id))

abbrev pub are_free : List Future → List ℕ → Bool
are_free futures ids = list_all (is_free futures) ids

abbrev pub Says : Asked → ExtraAnswer → Type 0
Says (Answer value) (extra.Answers said) = value ≡ said
Says (Raise fault) (extra.Raises said) = fault ≡ said
Says (Wait on key) (extra.Waits future kept) = (on ≡ future) × (key ≡ kept)
Says (Outside code bytes key) (extra.Asks number piece kept) = (code ≡ number) × (bytes ≡ piece) × (key ≡ kept)
Says _ _ = ⊥

-- a call came to this
pub record CallsSeen (y : Execed) (v w : View) (call : ExtraCall Execed) : Type 0 where
  pub kept : y ≡ call.state
  pub steps : (known : ℕ → Known) → SeesAll known call.steps v w

pub record SaysSeen (y : Execed) (v w : View) (asked : Asked) (said : ExtraSaid Execed) : Type 0 where
  pub call : CallsSeen y v w said.call
  pub answer : Says asked said.answer
