-- What a try comes to, by the view of the loop's parts.
use Rattle.std.specs.Prelude.{◌≡◌, ℕ, true, List, Option, Some, None, IfSome, length}
use Rattle.model_value.specs.Value.{Truth, Value}
use Rattle.model_sync.specs.Synced.{Tried}
use Rattle.aio_task.specs.Keeps.{Known}
use Rattle.aio_task.specs.View.{View}
use Rattle.refine_added.specs.Seen.{SeesAll}

-- It goes through with this answer, or it waits on a future, the next one.
pub record Tries {A : Type 0} (now : A) (v w : View) (on : Option ℕ) (answer : Option Value) (it : Tried A) : Type 0 where
  pub kept : now ≡ it.now
  pub steps : (known : ℕ → Known) → SeesAll known it.steps v w
  pub answers : it.answer ≡ answer
  pub next : IfSome on (λ id. id ≡ length v.futures)

-- of what answers true, unless it waits
abbrev pub truth_unless : Option ℕ → Option Value
truth_unless None = Some (Truth true)
truth_unless (Some on) = None
