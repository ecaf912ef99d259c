-- What the calls of endpoints come to, by the view of the loop's parts.
use Rattle.std.specs.Prelude.{◌≡◌, ℕ, List}
use Rattle.model_machine.specs.Extra as extra
use Rattle.model_machine.specs.Extra.{ExtraAnswer, ExtraCall, ExtraSaid, ExtraStep}
use Rattle.model_dgram.specs.Endpoints.{Endpoints}
use Rattle.aio_task.specs.Keeps.{Known}
use Rattle.aio_task.specs.View.{View}
use Rattle.aio_extra.specs.declared.asked.Asked.{Asked}
use Rattle.aio_extra.specs.declared.asked.Asked.TheVariants.{Answer, Raise, Wait, Outside}
use Rattle.refine_added.specs.Seen.{SeesAll}

-- these steps were made
abbrev pub Sees : List ExtraStep → View → View → Type 0
Sees steps v w = (known : ℕ → Known) → SeesAll known steps v w

abbrev pub Says : Asked → ExtraAnswer → Type 0
Says (Answer value) (extra.Answers said) = value ≡ said
Says (Raise fault) (extra.Raises said) = fault ≡ said
Says (Wait on key) (extra.Waits future kept) = (on ≡ future) × (key ≡ kept)
Says (Outside code bytes key) (extra.Asks number piece kept) = (code ≡ number) × (bytes ≡ piece) × (key ≡ kept)
Says _ _ = ⊥

-- a call came to this
pub record CallsSeen (y : Endpoints) (v w : View) (call : ExtraCall Endpoints) : Type 0 where
  pub kept : y ≡ call.state
  pub steps : (known : ℕ → Known) → SeesAll known call.steps v w

pub record SaysSeen (y : Endpoints) (v w : View) (asked : Asked) (said : ExtraSaid Endpoints) : Type 0 where
  pub call : CallsSeen y v w said.call
  pub answer : Says asked said.answer
