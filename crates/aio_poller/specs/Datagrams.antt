-- How endpoints of datagrams and datagrams are told: their numbers and their ports in decimal, and bytes, with a space between each
-- two. Ports are those of 127.0.0.1. Source: the library reference, "Transports and Protocols", datagram transports.
use Rattle.std.specs.Prelude.{ℕ, ◌+◌, ◌-◌, ◌^◌, ◌==◌, ◌&&◌, List, ◌∷◌, ◌++◌, Option, Some, None, take, drop, nat_le, if◌then◌else◌}
use Rattle.std.specs.Fmt.{decimal}
use Rattle.std.specs.List.{position}
use Rattle.std.specs.Option.{option_and_then, option_map}
use Rattle.model_value.specs.Number.{number_of}

-- a datagram at the endpoint with this number, with the port that it goes to or came from
pub record AtEndpoint : Type 0 where
  pub number : ℕ
  pub port : ℕ
  pub bytes : List ℕ

-- ---- as it is told: `0 10 ab`, for endpoint 0, port 10 and two bytes
abbrev pub datagram_text : ℕ → ℕ → List ℕ → List ℕ
datagram_text number port bytes = decimal number ++ 32 ∷ decimal port ++ 32 ∷ bytes

-- ---- as it is read
abbrev pub within : (least greatest number : ℕ) → Option ℕ
within least greatest number = if nat_le least number && nat_le number greatest then Some number else None

-- the number of an endpoint
abbrev pub endpoint_in : List ℕ → Option ℕ
endpoint_in digits = option_and_then (within 0 (2 ^ 32 - 1)) (number_of digits)

abbrev pub port_in : List ℕ → Option ℕ
port_in digits = option_and_then (within 1 65535) (number_of digits)

-- what stands before the first space, and what after it
abbrev pub cut : List ℕ → Option (List ℕ × List ℕ)
cut text = option_map (λ at. (take at text, drop (at + 1) text)) (position (λ byte. byte == 32) text)

abbrev pub at_endpoint : Option ℕ → Option ℕ → List ℕ → Option AtEndpoint
at_endpoint number port bytes =
    option_and_then (λ number. option_map (λ port. record { number = number; port = port; bytes = bytes }) port) number

abbrev pub datagram_in : List ℕ → Option AtEndpoint
datagram_in text =
    option_and_then (λ (front : List ℕ × List ℕ).
    option_and_then (λ (rest : List ℕ × List ℕ). at_endpoint (endpoint_in front.0) (port_in rest.0) rest.1) (cut front.1)) (cut text)
