-- What the calls of locks, events and queues come to, by the view of the loop's parts.
use Rattle.std.specs.Prelude.{◌≡◌, ℕ, List}
use Rattle.model_machine.specs.Extra as extra
use Rattle.model_machine.specs.Extra.{ExtraAnswer, ExtraCall, ExtraSaid}
use Rattle.model_sync.specs.Synced.{Synced, sync_keeps}
use Rattle.aio_task.specs.Keeps.{Known}
use Rattle.aio_task.specs.View.{View}
use Rattle.aio_extra.specs.declared.asked.Asked.{Asked}
use Rattle.aio_extra.specs.declared.asked.Asked.TheVariants.{Answer, Raise, Wait, Outside}
use Rattle.refine_added.specs.Seen.{SeesAll}
use Rattle.aio_sync.specs.declared.requests.Sync.{Sync}

-- what the machine keeps of it
abbrev pub kept_of : Sync → Synced
kept_of x =
    record {
      drawn = x.keys.drawn;
      waiting = x.keys.waiting;
      locks = x.locks.items;
      events = x.events.items;
      queues = x.queues.items;
    }

-- its futures
abbrev pub own_of : Sync → List ℕ
own_of x = (sync_keeps (kept_of x)).own

abbrev pub Says : Asked → ExtraAnswer → Type 0
Says (Answer value) (extra.Answers said) = value ≡ said
Says (Raise fault) (extra.Raises said) = fault ≡ said
Says (Wait on key) (extra.Waits future kept) = (on ≡ future) × (key ≡ kept)
Says _ _ = ⊥

-- a call came to this
pub record CallsSeen (y : Synced) (v w : View) (call : ExtraCall Synced) : Type 0 where
  pub kept : y ≡ call.state
  pub steps : (known : ℕ → Known) → SeesAll known call.steps v w

pub record SaysSeen (y : Synced) (v w : View) (asked : Asked) (said : ExtraSaid Synced) : Type 0 where
  pub call : CallsSeen y v w said.call
  pub answer : Says asked said.answer
