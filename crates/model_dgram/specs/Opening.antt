-- How endpoints are opened and closed. Source: `base_events.py`, `create_datagram_endpoint`; `selector_events.py`, `close`.
use Rattle.std.specs.Prelude.{ℕ, ◌+◌, ℤ, pos, Bool, false, [], ◌∷◌, ◌++◌, Some, None, bytes_eq, codes, if◌then◌else◌}
use Rattle.std.specs.Fmt.{decimal}
use Rattle.std.specs.List.{flat_map}
use Rattle.std.specs.Map.{remove_entry}
use Rattle.model_value.specs.Input.{Input}
use Rattle.model_value.specs.Value.{Value, Bytes, Int, Nothing, Exc, exception_of}
use Rattle.model_value.specs.declared.input.Input.TheVariants.{Send, Throw}
use Rattle.model_value.specs.declared.kind.Kind.TheVariants.{OSError, ValueError}
use Rattle.model_loop.specs.Parts.{Parts}
use Rattle.model_machine.specs.Extra.{Answers, Asks, Raises, ExtraSaid}
use Rattle.model_sync.specs.Synced.{is_place}
use Rattle.model_dgram.specs.Texts.{port_of}
use Rattle.model_dgram.specs.Endpoints.{Closes, Endpoint, Endpoints, Opens, fresh, next_key, raises, says, wait_last, wait_over, wakes_at, wakes_receiver}

abbrev pub no_port : Exc
no_port = exception_of ValueError (codes "port")

abbrev pub other_answer : Exc
other_answer = exception_of OSError (codes "extra answer")

-- ---- open
abbrev pub open_on : (port : ℤ) → Endpoints → ExtraSaid Endpoints
open_on port kept = elim (port_of port) [
  | None ↦ raises no_port kept
  | Some port ↦ says (wait_last Opens kept) [] (Asks (pos 400) (decimal port) (next_key kept))
]

-- the outside answers with the next number, as it is written
abbrev pub is_next : Endpoints → Value → Bool
is_next kept (Bytes bytes) = bytes_eq bytes (decimal kept.opened)
is_next kept _ = false

abbrev pub opened : (place : ℕ) → Input → Endpoints → ExtraSaid Endpoints
opened place (Throw exception) kept = says (wait_over place kept) [] (Raises exception)
opened place (Send value) kept =
    if is_next kept value
    then says
    (record (wait_over place kept) { opened = kept.opened + 1; endpoints = kept.endpoints ++ (kept.opened, fresh) ∷ [] }) []
    (Answers (Int (pos kept.opened)))
    else says (wait_over place kept) [] (Raises other_answer)

-- ---- close
-- What it holds is dropped, and all who wait are woken: the senders in order, and then the receiver. As they go on, they find it
-- closed.
abbrev pub close : (id : ℕ) → Endpoint → Parts → Endpoints → ExtraSaid Endpoints
close id endpoint p kept =
    says (wait_last Closes (record kept { endpoints = remove_entry (is_place id) kept.endpoints }))
    (flat_map (wakes_at kept) endpoint.senders ++ wakes_receiver kept endpoint.receiver)
    (Asks (pos 403) (decimal id) (next_key kept))

-- whatever the outside answers
abbrev pub closed : (place : ℕ) → Input → Endpoints → ExtraSaid Endpoints
closed place input kept = says (wait_over place kept) [] (Answers Nothing)
