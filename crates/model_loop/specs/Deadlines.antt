-- A timeout's handle, a timer or a pending one that isn't dead, is named by the timeout's tag. It has a tag only while it
-- is active, all its handles have that tag, and nothing else has it. So an active timeout has one handle at most, and
-- any other has none.
use Rattle.std.specs.Prelude.{◌≡◌, ℕ, ◌<◌, Bool, true, false, not, ◌&&◌, ◌==◌, Option, Some, None}
use Rattle.model_value.specs.Action.{Action}
use Rattle.model_value.specs.declared.action.Action.TheVariants.{Fires}
use Rattle.model_loop.specs.Parts.{Parts}
use Rattle.model_loop.specs.Loop.{Timeout}
use Rattle.model_loop.specs.Timeouts.{is_active}
use Rattle.model_loop.specs.Entries.{entries}

abbrev pub fires : ℕ → Action → Bool
fires id (Fires other) = other == id
fires id _ = false

abbrev pub fires_any : ℕ → ℕ → Action → Bool
fires_any id tag action = fires id action

abbrev pub fires_as : (id tag : ℕ) → ℕ → Action → Bool
fires_as id tag other action = (other == tag) && fires id action

abbrev pub others_as : (id tag : ℕ) → ℕ → Action → Bool
others_as id tag other action = (other == tag) && not (fires id action)

abbrev pub entries_at : Parts → ℕ → Option ℕ → ℕ
entries_at p id None = 0
entries_at p id (Some tag) = entries (fires_as id tag) p

pub record HasTag (p : Parts) (id : ℕ) (timeout : Timeout) : Type 0 where
  -- all its handles have its tag
  pub held : entries (fires_any id) p ≡ entries_at p id timeout.tag
  pub active : (tag : ℕ) → timeout.tag ≡ Some tag → is_active timeout.state ≡ true
  pub below : (tag : ℕ) → timeout.tag ≡ Some tag → tag < p.next_tag
  -- and nothing else has it
  pub own : (tag : ℕ) → timeout.tag ≡ Some tag → entries (others_as id tag) p ≡ 0
