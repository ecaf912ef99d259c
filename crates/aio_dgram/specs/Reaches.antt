-- Which endpoint a number names, in code; and what is raised where none is open.
use Rattle.std.specs.Prelude.{◌≡◌, ℕ, ℤ, pos, true, is_some}
use Rattle.model_loop.specs.Parts.{Parts}
use Rattle.model_machine.specs.Extra.{ExtraSaid}
use Rattle.model_dgram.specs.Endpoints.{Endpoint, Endpoints, endpoint_at, on_endpoint}
use Rattle.aio_task.specs.View.{View}
use Rattle.aio_dgram.specs.declared.dgram.Reached.{Reached}
use Rattle.aio_dgram.specs.declared.dgram.Reached.TheVariants.{Open, Raised}
use Rattle.aio_dgram.specs.Woken.{SaysSeen}

-- One that is open. Otherwise whatever is wanted of it comes to this.
abbrev pub Reaches : Reached → ℤ → (x y : Endpoints) → View → Type 0
Reaches (Open id) number x y v = (number ≡ pos id) × (is_some (endpoint_at id x) ≡ true) × (y ≡ x)
Reaches (Raised asked) number x y v =
    (next : ℕ → Endpoint → Parts → Endpoints → ExtraSaid Endpoints) (p : Parts) → SaysSeen y v v asked (on_endpoint next number p x)
