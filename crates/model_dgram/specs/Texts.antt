-- How datagrams are told to the outside, and by it: numbers and bytes, with spaces between. Ports are those of 127.0.0.1.
use Rattle.std.specs.Prelude.{ℕ, ℤ, pos, negsuc, ◌&&◌, List, Option, Some, None, nat_le, if◌then◌else◌}
use Rattle.std.specs.Option.{option_map}
use Rattle.model_fields.specs.Fields.{numbered, with_number}

-- a datagram, with the port that it goes to or came from
pub record Datagram : Type 0 where
  pub port : ℕ
  pub bytes : List ℕ

-- the most bytes that one may have
abbrev pub most_sent : ℕ
most_sent = 65507

abbrev pub port_in : ℕ → Option ℕ
port_in port = if nat_le 1 port && nat_le port 65535 then Some port else None

abbrev pub port_of : ℤ → Option ℕ
port_of (pos port) = port_in port
port_of (negsuc before) = None

-- what the outside is asked to send: `0 10 ab`, for endpoint 0, port 10 and two bytes
abbrev pub offer_text : (endpoint : ℕ) → Datagram → List ℕ
offer_text endpoint it = with_number endpoint (with_number it.port it.bytes)

-- a datagram that came to an endpoint, told in the same form
pub record Came : Type 0 where
  pub endpoint : ℕ
  pub datagram : Datagram

abbrev pub came_to : (endpoint : ℕ) (bytes : List ℕ) → (port : Option ℕ) → Option Came
came_to endpoint bytes port = option_map (λ it. record { endpoint = endpoint; datagram = record { port = it; bytes = bytes } }) port

-- what has another form tells of none
abbrev pub came_in : List ℕ → Option Came
came_in text = elim (numbered text) [
  | None ↦ None
  | Some front ↦ elim (numbered front.1) [ None ↦ None | Some rest ↦ came_to front.0 rest.1 (port_in rest.0) ]
]
