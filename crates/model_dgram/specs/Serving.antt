-- The table of these requests: 400 opens, 401 sends, 402 receives, 403 closes; and what the outside tells: 401 that there is room, 402 a
-- datagram.
use Rattle.std.specs.Prelude.{ℕ, ◌==◌, ℤ, pos, negsuc, Bool, true, false, List, [], ◌∷◌, Option, Some, None, if◌then◌else◌}
use Rattle.std.specs.Option.{option_and_then, option_map}
use Rattle.model_value.specs.Input.{Input}
use Rattle.model_value.specs.Number.{number_of}
use Rattle.model_value.specs.Value.{Value}
use Rattle.model_says.specs.Requests.{bad_argument}
use Rattle.model_machine.specs.Arguments.{as_bytes, as_int}
use Rattle.model_machine.specs.Extra.{Extra, ExtraCall, ExtraSaid, unknown_code}
use Rattle.model_loop.specs.Parts.{Parts}
use Rattle.model_reach.specs.Part.{drawing, only_says, passes, place_of, refuses, stays}
use Rattle.model_dgram.specs.Texts.{came_in}
use Rattle.model_dgram.specs.Endpoints.{Closes, Endpoints, Offers, Opens, Receives, Sends, Waiting, dgram_keeps, dgram_part, on_endpoint, waiting_at}
use Rattle.model_dgram.specs.Opening.{close, closed, open_on, opened}
use Rattle.model_dgram.specs.Sending.{has_room, offered, send, sends_again}
use Rattle.model_dgram.specs.Receiving.{came, receive, receives_again}

-- a request, with the number of its endpoint
pub data Wanted : Type 0 where
  Open : (port : ℤ) → Wanted
  SendTo : (endpoint port : ℤ) (bytes : List ℕ) → Wanted
  Receive : (endpoint : ℤ) → Wanted
  Close : (endpoint : ℤ) → Wanted

-- ---- the shapes of lists: a number, or two and bytes
abbrev pub one : (ℤ → Wanted) → List Value → Option Wanted
one of (x ∷ []) = option_map of (as_int x)
one of _ = None

abbrev pub three : List Value → Option Wanted
three (endpoint ∷ port ∷ bytes ∷ []) =
    option_and_then (λ id. option_and_then (λ it. option_map (SendTo id it) (as_bytes bytes)) (as_int port)) (as_int endpoint)
three _ = None

-- a code that isn't known is none; a list that hasn't its shape asks for nothing
abbrev pub wanted_of : ℤ → List Value → Option (Option Wanted)
wanted_of (pos code) xs =
    if code == 400 then Some (one Open xs)
    else (if code == 401 then Some (three xs)
    else (if code == 402 then Some (one Receive xs)
    else (if code == 403 then Some (one Close xs) else None)))
wanted_of (negsuc before) xs = None

abbrev pub served : Wanted → Parts → Endpoints → ExtraSaid Endpoints
served (Open port) p kept = open_on port kept
served (SendTo endpoint port bytes) p kept = on_endpoint (send port bytes) endpoint p kept
served (Receive endpoint) p kept = on_endpoint receive endpoint p kept
served (Close endpoint) p kept = on_endpoint close endpoint p kept

-- each draws a key
abbrev pub asked_for : (code : ℤ) → Option (Option Wanted) → Parts → Endpoints → ExtraSaid Endpoints
asked_for code None p kept = refuses (unknown_code code) kept
asked_for code (Some None) p kept = refuses bad_argument kept
asked_for code (Some (Some wanted)) p kept = drawing dgram_part kept.drawn 1 (served wanted p kept) kept

-- ---- what is woken
abbrev pub woken : Option Waiting → (key place : ℕ) → Input → Parts → Endpoints → ExtraSaid Endpoints
woken None key place input p kept = only_says (passes input) kept
woken (Some Opens) key place input p kept = opened place input kept
woken (Some (Offers id it)) key place input p kept = offered key place id it input p kept
woken (Some (Sends id it on)) key place input p kept = sends_again key place id it input p kept
woken (Some (Receives id on)) key place input p kept = receives_again key place id input p kept
woken (Some Closes) key place input p kept = closed place input kept

-- a sender that waits asks the outside as it goes on, and is woken by the answer in the same step
abbrev pub wakes_left : Option Waiting → ℕ
wakes_left None = 0
wakes_left (Some Opens) = 0
wakes_left (Some (Offers id it)) = 0
wakes_left (Some (Sends id it on)) = 1
wakes_left (Some (Receives id on)) = 0
wakes_left (Some Closes) = 0

-- ---- what the outside tells
abbrev pub told : ℤ → List ℕ → Endpoints → ExtraCall Endpoints
told (pos code) bytes kept =
    if code == 401 then has_room (number_of bytes) kept
    else (if code == 402 then came (came_in bytes) kept else stays kept)
told (negsuc before) bytes kept = stays kept

abbrev pub is_any : {A : Type 0} → List A → Bool
is_any [] = false
is_any (x ∷ xs) = true

abbrev pub dgram_means : Extra Endpoints
dgram_means =
    record {
      ask = λ task code arguments s. asked_for code (wanted_of code arguments) s.loop.parts s.extra;
      wake = λ key input s. let place = place_of dgram_part key in woken (waiting_at place s.extra) key place input s.loop.parts s.extra;
      wakes_left = λ key kept. wakes_left (waiting_at (place_of dgram_part key) kept);
      act = λ key s. stays s.extra;
      item = λ code bytes s. told code bytes s.extra;
      watches = λ kept. is_any kept.endpoints;
      keeps = dgram_keeps;
    }
