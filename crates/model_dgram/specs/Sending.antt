-- How datagrams are sent, in order of asking. Who sends stands in line until it has sent or raised; the first in line asks the
-- outside, and waits where that can't send yet. Who is woken while another stands first waits on; nobody but the first is woken. Source: `selector_events.py`, `_SelectorDatagramTransport.sendto`, `_sendto_ready`.
use Rattle.std.specs.Prelude.{ℕ, ◌==◌, ℤ, pos, Bool, false, List, [], ◌∷◌, ◌++◌, Option, Some, None, bytes_eq, codes, length, nat_lt, if◌then◌else◌}
use Rattle.model_value.specs.Input.{Input}
use Rattle.model_value.specs.Value.{Value, Bytes, Nothing, Exc, exception_of}
use Rattle.model_value.specs.declared.input.Input.TheVariants.{Send, Throw}
use Rattle.model_value.specs.declared.kind.Kind.TheVariants.{OSError, ValueError}
use Rattle.model_loop.specs.Futures.{next_future}
use Rattle.model_loop.specs.Parts.{Parts}
use Rattle.model_machine.specs.Extra.{Answers, Asks, ExtraAnswer, ExtraCall, ExtraSaid, MakesPlain, Raises, Waits}
use Rattle.model_reach.specs.Part.{stays}
use Rattle.model_sync.specs.Synced.{without}
use Rattle.model_dgram.specs.Texts.{Datagram, most_sent, offer_text, port_of}
use Rattle.model_dgram.specs.Endpoints.{Endpoint, Endpoints, Offers, Sends, answers, endpoint_at, is_closed, next_key, raises, says, set_endpoint}
use Rattle.model_dgram.specs.Endpoints.{wait_again, wait_last, wait_over, wakes_first}
use Rattle.model_dgram.specs.Opening.{no_port}

abbrev pub too_long : Exc
too_long = exception_of ValueError (codes "datagram")

abbrev pub send_failed : Exc
send_failed = exception_of OSError (codes "send failed")

-- ---- asked
-- the last in line
abbrev pub stand_last : ℕ → Endpoint → Endpoint
stand_last place endpoint = record endpoint { senders = endpoint.senders ++ place ∷ [] }

-- the outside is asked where nobody stands in line
abbrev pub offer : Datagram → ℕ → Endpoint → Parts → Endpoints → ExtraSaid Endpoints
offer it id endpoint p kept =
    elim endpoint.senders [
      | [] ↦
          says (wait_last (Offers id it) (set_endpoint id (stand_last kept.drawn endpoint) kept)) []
          (Asks (pos 401) (offer_text id it) (next_key kept))
      | first ∷ others ↦
          says (wait_last (Sends id it (next_future p)) (set_endpoint id (stand_last kept.drawn endpoint) kept)) (MakesPlain ∷ [])
          (Waits (next_future p) (next_key kept))
    ]

-- empty bytes ask nothing
abbrev pub send : (port : ℤ) → List ℕ → ℕ → Endpoint → Parts → Endpoints → ExtraSaid Endpoints
send port bytes id endpoint p kept =
    elim (port_of port) [
      | None ↦ raises no_port kept
      | Some port ↦
          if nat_lt most_sent (length bytes) then raises too_long kept
          else elim bytes [
            | [] ↦ answers Nothing kept
            | byte ∷ more ↦ offer (record { port = port; bytes = byte ∷ more }) id endpoint p kept
          ]
    ]

-- ---- woken
abbrev pub stands_first : ℕ → List ℕ → Bool
stands_first place [] = false
stands_first place (first ∷ others) = first == place

-- it leaves the line, and where it stood first the next is woken; of an endpoint that is closed no line is left
abbrev pub leaves : (place id : ℕ) → ExtraAnswer → Endpoints → ExtraSaid Endpoints
leaves place id answer kept =
    elim (endpoint_at id kept) [
      | None ↦ says (wait_over place kept) [] answer
      | Some endpoint ↦
          let senders = without place endpoint.senders in
          says (set_endpoint id (record endpoint { senders = senders }) (wait_over place kept))
          (if stands_first place endpoint.senders then wakes_first kept senders else []) answer
    ]

-- by its future: the outside is asked
abbrev pub asks_again : (key place id : ℕ) → Datagram → Endpoint → Parts → Endpoints → ExtraSaid Endpoints
asks_again key place id it endpoint p kept =
    if stands_first place endpoint.senders
    then says (wait_again place (Offers id it) kept) [] (Asks (pos 401) (offer_text id it) key)
    else says (wait_again place (Sends id it (next_future p)) kept) (MakesPlain ∷ []) (Waits (next_future p) key)

abbrev pub sends_again : (key place id : ℕ) → Datagram → Input → Parts → Endpoints → ExtraSaid Endpoints
sends_again key place id it (Throw exception) p kept = leaves place id (Raises exception) kept
sends_again key place id it (Send value) p kept =
    elim (endpoint_at id kept) [
      | None ↦ leaves place id (Raises is_closed) kept
      | Some endpoint ↦ asks_again key place id it endpoint p kept
    ]

-- what the outside answered is these bytes
abbrev pub is_answer : Value → List ℕ → Bool
is_answer (Bytes bytes) wanted = bytes_eq bytes wanted
is_answer _ wanted = false

-- By what the outside answers. Where it can't send yet, the sender waits, and stands first still.
abbrev pub offered : (key place id : ℕ) → Datagram → Input → Parts → Endpoints → ExtraSaid Endpoints
offered key place id it (Throw exception) p kept = leaves place id (Raises exception) kept
offered key place id it (Send value) p kept =
    if is_answer value (codes "sent") then leaves place id (Answers Nothing) kept
    else (if is_answer value (codes "again")
    then says (wait_again place (Sends id it (next_future p)) kept) (MakesPlain ∷ []) (Waits (next_future p) key)
    else leaves place id (Raises send_failed) kept)

-- ---- the outside tells that an endpoint may be sent to again
abbrev pub has_room : Option ℕ → Endpoints → ExtraCall Endpoints
has_room None kept = stays kept
has_room (Some id) kept = elim (endpoint_at id kept) [
  | None ↦ stays kept
  | Some endpoint ↦ record { state = kept; steps = wakes_first kept endpoint.senders }
]
