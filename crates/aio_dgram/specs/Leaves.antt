-- How an endpoint is left, as code leaves it.
use Rattle.std.specs.Prelude.{◌≡◌, ℕ, [], Option, Some, None, if◌then◌else◌}
use Rattle.model_sync.specs.Synced.{without}
use Rattle.model_dgram.specs.Endpoints.{Endpoint, Endpoints, endpoint_at, set_endpoint, wakes_first}
use Rattle.model_dgram.specs.Sending.{stands_first}
use Rattle.aio_task.specs.View.{View}
use Rattle.aio_dgram.specs.Woken.{Sees}

-- by a sender; where it isn't open there is no line
abbrev pub LeavesLineOf : Option Endpoint → (place id : ℕ) → (x y : Endpoints) → (v w : View) → Type 0
LeavesLineOf None place id x y v w = (y ≡ x) × (w ≡ v)
LeavesLineOf (Some endpoint) place id x y v w =
    (y ≡ set_endpoint id (record endpoint { senders = without place endpoint.senders }) x)
    × Sees (if stands_first place endpoint.senders then wakes_first x (without place endpoint.senders) else []) v w

abbrev pub LeavesLine : (place id : ℕ) → (x y : Endpoints) → (v w : View) → Type 0
LeavesLine place id x y v w = LeavesLineOf (endpoint_at id x) place id x y v w

-- who receives, if it is open
abbrev pub received_by : (id : ℕ) → Option ℕ → Endpoints → Endpoints
received_by id receiver x = elim (endpoint_at id x) [ None ↦ x | Some endpoint ↦ set_endpoint id (record endpoint { receiver = receiver }) x ]
