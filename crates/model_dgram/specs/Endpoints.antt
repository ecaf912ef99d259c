-- What is kept of datagram endpoints. Source: the library reference, "Transports and Protocols", datagram transports;
-- `selector_events.py`, `_SelectorDatagramTransport`. Where asyncio keeps a datagram that can't be sent yet, its sender waits here.
use Rattle.std.specs.Prelude.{ℕ, ◌+◌, List, [], ◌∷◌, ◌++◌, Option, Some, None, codes, map, nat_lt, if◌then◌else◌, ℤ, pos, negsuc}
use Rattle.std.specs.List.{flat_map}
use Rattle.std.specs.Map.{lookup, remove_entry, set_value}
use Rattle.model_value.specs.Value.{Value, Exc, exception_of}
use Rattle.model_value.specs.declared.kind.Kind.TheVariants.{RuntimeError, ValueError}
use Rattle.model_loop.specs.Parts.{Parts}
use Rattle.model_machine.specs.Extra.{ExtraAnswer, Answers, Raises, ExtraSaid, ExtraStep, Keeping}
use Rattle.model_reach.specs.Part.{key_at, was_drawn}
use Rattle.model_sync.specs.Synced.{is_place, wakes}
use Rattle.model_dgram.specs.Texts.{Datagram}

-- An endpoint that is open: the datagrams that came and weren't received; those who send, in order of asking, of whom the first asks
-- the outside; and who receives. Both are named by the places of their keys.
pub record Endpoint : Type 0 where
  pub held : List Datagram
  pub senders : List ℕ
  pub receiver : Option ℕ

abbrev pub fresh : Endpoint
fresh = record { held = []; senders = []; receiver = None }

-- it holds no more datagrams than these
abbrev pub most_held : ℕ
most_held = 1024

-- A request that waits on a future, or for what the outside answers.
pub data Waiting : Type 0 where
  Opens : Waiting
  -- the outside is asked to send it
  Offers : (endpoint : ℕ) (datagram : Datagram) → Waiting
  Sends : (endpoint : ℕ) (datagram : Datagram) (on : ℕ) → Waiting
  Receives : (endpoint on : ℕ) → Waiting
  Closes : Waiting

-- the part's number, of which its keys are
abbrev pub dgram_part : ℕ
dgram_part = 3

-- How many keys were drawn; each request that waits, in order of asking, with the place of its key; how many endpoints were opened,
-- which are numbered from 0; and those that are open, by their numbers.
pub record Endpoints : Type 0 where
  pub drawn : ℕ
  pub waiting : List (ℕ × Waiting)
  pub opened : ℕ
  pub endpoints : List (ℕ × Endpoint)

abbrev pub none_opened : Endpoints
none_opened = record { drawn = 0; waiting = []; opened = 0; endpoints = [] }

-- ---- keys
-- the request that waits under the key at this place
abbrev pub waiting_at : (place : ℕ) → Endpoints → Option Waiting
waiting_at place kept = lookup (is_place place) kept.waiting

-- the key of the request that is asked
abbrev pub next_key : Endpoints → ℕ
next_key kept = key_at dgram_part kept.drawn

-- it is drawn, for a request that is answered at once
abbrev pub draw : Endpoints → Endpoints
draw kept = record kept { drawn = kept.drawn + 1 }

-- or for one that waits
abbrev pub wait_last : Waiting → Endpoints → Endpoints
wait_last it kept = record kept { drawn = kept.drawn + 1; waiting = kept.waiting ++ (kept.drawn, it) ∷ [] }

-- a request that was woken waits again, under the same key
abbrev pub wait_again : (place : ℕ) → Waiting → Endpoints → Endpoints
wait_again place it kept = record kept { waiting = set_value (is_place place) kept.waiting it }

-- or waits no more
abbrev pub wait_over : (place : ℕ) → Endpoints → Endpoints
wait_over place kept = record kept { waiting = remove_entry (is_place place) kept.waiting }

-- ---- endpoints
abbrev pub endpoint_at : (id : ℕ) → Endpoints → Option Endpoint
endpoint_at id kept = lookup (is_place id) kept.endpoints

abbrev pub set_endpoint : (id : ℕ) → Endpoint → Endpoints → Endpoints
set_endpoint id endpoint kept = record kept { endpoints = set_value (is_place id) kept.endpoints endpoint }

-- ---- what a request comes to
-- what is kept then, the steps, and the answer
abbrev pub says : Endpoints → List ExtraStep → ExtraAnswer → ExtraSaid Endpoints
says kept steps answer = record { call = record { state = kept; steps = steps }; answer = answer }

-- it is answered as it is asked
abbrev pub answers : Value → Endpoints → ExtraSaid Endpoints
answers value kept = says (draw kept) [] (Answers value)

abbrev pub raises : Exc → Endpoints → ExtraSaid Endpoints
raises exception kept = says (draw kept) [] (Raises exception)

abbrev pub no_endpoint : Exc
no_endpoint = exception_of ValueError (codes "no such endpoint")

abbrev pub is_closed : Exc
is_closed = exception_of RuntimeError (codes "closed")

-- a request on an endpoint by its number: one that was never opened, one that was closed, one that is open
abbrev pub on_opened : ((id : ℕ) → Endpoint → Parts → Endpoints → ExtraSaid Endpoints) → (id : ℕ) → Parts → Endpoints → ExtraSaid Endpoints
on_opened next id p kept = elim (endpoint_at id kept) [
  | None ↦ raises (if nat_lt id kept.opened then is_closed else no_endpoint) kept
  | Some endpoint ↦ next id endpoint p kept
]

abbrev pub on_endpoint : ((id : ℕ) → Endpoint → Parts → Endpoints → ExtraSaid Endpoints) → ℤ → Parts → Endpoints → ExtraSaid Endpoints
on_endpoint next (pos id) p kept = on_opened next id p kept
on_endpoint next (negsuc before) p kept = raises no_endpoint kept

-- ---- waiters
-- the future on which it waits, if it waits on one
abbrev pub futures_of : Waiting → List ℕ
futures_of Opens = []
futures_of (Offers endpoint datagram) = []
futures_of (Sends endpoint datagram on) = on ∷ []
futures_of (Receives endpoint on) = on ∷ []
futures_of Closes = []

-- what waits under the key at this place is woken, unless its future is done
abbrev pub wakes_at : Endpoints → (place : ℕ) → List ExtraStep
wakes_at kept place = elim (waiting_at place kept) [ None ↦ [] | Some it ↦ map wakes (futures_of it) ]

abbrev pub wakes_first : Endpoints → List ℕ → List ExtraStep
wakes_first kept [] = []
wakes_first kept (place ∷ places) = wakes_at kept place

abbrev pub wakes_receiver : Endpoints → Option ℕ → List ExtraStep
wakes_receiver kept None = []
wakes_receiver kept (Some place) = wakes_at kept place

-- ---- what is kept
abbrev pub dgram_keeps : Endpoints → Keeping
dgram_keeps kept =
    record {
      tasks = [];
      futures = [];
      own = flat_map (λ entry. futures_of entry.1) kept.waiting;
      tags = [];
      values = [];
      has_key = was_drawn dgram_part kept.drawn;
    }
