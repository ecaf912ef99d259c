-- How datagrams are received, one by one. Source: `selector_events.py`, `_SelectorDatagramTransport._read_ready`; `streams.py`,
-- `StreamReader._wait_for_data`, where one waits at most.
use Rattle.std.specs.Prelude.{ℕ, pos, List, [], ◌∷◌, ◌++◌, Option, Some, None, codes, length, nat_lt, if◌then◌else◌}
use Rattle.model_value.specs.Input.{Input}
use Rattle.model_value.specs.Value.{Value, Bytes, Int, Items, Exc, exception_of, values}
use Rattle.model_value.specs.declared.input.Input.TheVariants.{Send, Throw}
use Rattle.model_value.specs.declared.kind.Kind.TheVariants.{RuntimeError}
use Rattle.model_loop.specs.Futures.{next_future}
use Rattle.model_loop.specs.Parts.{Parts}
use Rattle.model_machine.specs.Extra.{Answers, ExtraCall, ExtraSaid, MakesPlain, Raises, Waits}
use Rattle.model_reach.specs.Part.{stays}
use Rattle.model_dgram.specs.Texts.{Came, Datagram}
use Rattle.model_dgram.specs.Endpoints.{Endpoint, Endpoints, Receives, answers, endpoint_at, is_closed, most_held, next_key, raises, says}
use Rattle.model_dgram.specs.Endpoints.{set_endpoint, wait_again, wait_last, wait_over, wakes_receiver}

abbrev pub waited_for : Exc
waited_for = exception_of RuntimeError (codes "receive is already waited for")

-- the port that it came from, and its bytes
abbrev pub told_as : Datagram → Value
told_as it = Items (values (Int (pos it.port) ∷ Bytes it.bytes ∷ []))

-- ---- asked
abbrev pub waits_for : (id : ℕ) → Endpoint → Parts → Endpoints → ExtraSaid Endpoints
waits_for id endpoint p kept =
    elim endpoint.receiver [
      | Some other ↦ raises waited_for kept
      | None ↦
          says (wait_last (Receives id (next_future p)) (set_endpoint id (record endpoint { receiver = Some kept.drawn }) kept))
          (MakesPlain ∷ []) (Waits (next_future p) (next_key kept))
    ]

-- the first that is held, or the next that comes
abbrev pub receive : (id : ℕ) → Endpoint → Parts → Endpoints → ExtraSaid Endpoints
receive id endpoint p kept =
    elim endpoint.held [
      | [] ↦ waits_for id endpoint p kept
      | first ∷ others ↦ answers (told_as first) (set_endpoint id (record endpoint { held = others }) kept)
    ]

-- ---- woken
-- it may find that another has received meanwhile
abbrev pub received : (key place id : ℕ) → Endpoint → Parts → Endpoints → ExtraSaid Endpoints
received key place id endpoint p kept =
    elim endpoint.held [
      | [] ↦ says (wait_again place (Receives id (next_future p)) kept) (MakesPlain ∷ []) (Waits (next_future p) key)
      | first ∷ others ↦
          says (set_endpoint id (record endpoint { held = others; receiver = None }) (wait_over place kept)) []
          (Answers (told_as first))
    ]

-- it receives no more
abbrev pub gives_up : (place id : ℕ) → Exc → Endpoints → ExtraSaid Endpoints
gives_up place id exception kept =
    elim (endpoint_at id kept) [
      | None ↦ says (wait_over place kept) [] (Raises exception)
      | Some endpoint ↦ says (set_endpoint id (record endpoint { receiver = None }) (wait_over place kept)) [] (Raises exception)
    ]

abbrev pub receives_again : (key place id : ℕ) → Input → Parts → Endpoints → ExtraSaid Endpoints
receives_again key place id (Throw exception) p kept = gives_up place id exception kept
receives_again key place id (Send value) p kept =
    elim (endpoint_at id kept) [
      | None ↦ gives_up place id is_closed kept
      | Some endpoint ↦ received key place id endpoint p kept
    ]

-- ---- the outside tells of a datagram
-- it is held, or dropped where so many are
abbrev pub hold : Datagram → List Datagram → List Datagram
hold it held = if nat_lt (length held) most_held then held ++ it ∷ [] else held

abbrev pub came : Option Came → Endpoints → ExtraCall Endpoints
came None kept = stays kept
came (Some it) kept = elim (endpoint_at it.endpoint kept) [
  | None ↦ stays kept
  | Some endpoint ↦
      record {
        state = set_endpoint it.endpoint (record endpoint { held = hold it.datagram endpoint.held }) kept;
        steps = wakes_receiver kept endpoint.receiver;
      }
]
