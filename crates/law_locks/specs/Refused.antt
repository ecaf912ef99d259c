-- A request that can't be served raises its exception and changes nothing.
use Rattle.std.specs.Prelude.{◌≡◌, ℕ, ℤ, pos, negsuc, ◌≤◌, []}
use Rattle.model_value.specs.Value.{Exc}
use Rattle.model_machine.specs.Extra.{ExtraSaid, Raises}
use Rattle.model_sync.specs.Synced.{Synced}

-- but for the request's own key
pub record IsUnchanged (kept now : Synced) : Type 0 where
  pub waiting : now.waiting ≡ kept.waiting
  pub locks : now.locks ≡ kept.locks
  pub events : now.events ≡ kept.events
  pub queues : now.queues ≡ kept.queues

pub record IsRefused (exception : Exc) (kept : Synced) (said : ExtraSaid Synced) : Type 0 where
  pub answer : said.answer ≡ Raises exception
  pub steps : said.call.steps ≡ []
  pub state : IsUnchanged kept said.call.state

-- of those that were made, which are numbered from 0, none has this number
abbrev pub WasNeverMade : (made : ℕ) → ℤ → Type 0
WasNeverMade made (pos id) = made ≤ id
WasNeverMade made (negsuc before) = Unit {0}
