-- What is noted of datagrams, in order, and what users of them rely on.
use Rattle.std.specs.Prelude.{◌≡◌, ◌⊎◌, ℕ, ◌==◌, Bool, true, false, ◌||◌, List, [], ◌∷◌, ◌++◌, Option, Some, None, map, if◌then◌else◌}
use Rattle.model_value.specs.Value.{Exc, Nothing, Value}
use Rattle.model_dgram.specs.Texts.{Datagram, offer_text}
use Rattle.model_dgram.specs.Endpoints.{Endpoint, Endpoints, endpoint_at}
use Rattle.model_dgram.specs.Receiving.{told_as}

-- A request is known by the place of its key.
pub data Note : Type 0 where
  -- a send that isn't refused, of some bytes, stands in line
  Wants : (request endpoint : ℕ) (it : Datagram) → Note
  -- the outside is asked for it, in these bytes
  Offers : (request : ℕ) (bytes : List ℕ) → Note
  -- and answered `sent`
  Sent : (request endpoint : ℕ) → Note
  -- the send is over
  Answers : (request : ℕ) (value : Value) → Note
  Raises : (request : ℕ) (exception : Exc) → Note
  -- there are news of a datagram that came to an endpoint
  Comes : (endpoint : ℕ) (it : Datagram) → Note
  -- a receive gives this
  Gives : (endpoint : ℕ) (value : Value) → Note

-- ---- in order
-- the first list, in order and each once, is part of the second
abbrev pub IsPartOf : {A : Type 0} → List A → List A → Type 0
IsPartOf [] ys = Unit {0}
IsPartOf (x ∷ xs) [] = ⊥
IsPartOf (x ∷ xs) (y ∷ ys) = ((x ≡ y) × IsPartOf xs ys) ⊎ IsPartOf (x ∷ xs) ys

-- ---- of one endpoint
abbrev pub wanted_by : (endpoint : ℕ) → Note → List ℕ
wanted_by endpoint (Wants request other it) = if other == endpoint then request ∷ [] else []
wanted_by endpoint _ = []

abbrev pub sent_by : (endpoint : ℕ) → Note → List ℕ
sent_by endpoint (Sent request other) = if other == endpoint then request ∷ [] else []
sent_by endpoint _ = []

abbrev pub come_by : (endpoint : ℕ) → Note → List Value
come_by endpoint (Comes other it) = if other == endpoint then told_as it ∷ [] else []
come_by endpoint _ = []

abbrev pub given_by : (endpoint : ℕ) → Note → List Value
given_by endpoint (Gives other value) = if other == endpoint then value ∷ [] else []
given_by endpoint _ = []

abbrev pub gathered : {A : Type 0} → (Note → List A) → List Note → List A
gathered of [] = []
gathered of (note ∷ notes) = of note ++ gathered of notes

-- the sends that stood in line, in order of asking, and those that were sent, in order
abbrev pub wanted_on : (endpoint : ℕ) → List Note → List ℕ
wanted_on endpoint = gathered (wanted_by endpoint)

abbrev pub sent_on : (endpoint : ℕ) → List Note → List ℕ
sent_on endpoint = gathered (sent_by endpoint)

-- what came, and what receives gave
abbrev pub come_on : (endpoint : ℕ) → List Note → List Value
come_on endpoint = gathered (come_by endpoint)

abbrev pub given_on : (endpoint : ℕ) → List Note → List Value
given_on endpoint = gathered (given_by endpoint)

abbrev pub held_of : Option Endpoint → List Datagram
held_of None = []
held_of (Some endpoint) = endpoint.held

-- what it holds, where it is open
abbrev pub held_on : (endpoint : ℕ) → Endpoints → List Value
held_on endpoint kept = map told_as (held_of (endpoint_at endpoint kept))

-- ---- of one request
-- what it is to send, and on which endpoint
pub record Wanted : Type 0 where
  pub endpoint : ℕ
  pub it : Datagram

abbrev pub wanted_in : (request : ℕ) → Note → Option Wanted
wanted_in request (Wants other endpoint it) = if other == request then Some (record { endpoint = endpoint; it = it }) else None
wanted_in request _ = None

abbrev pub first_of : {A : Type 0} → Option A → Option A → Option A
first_of (Some it) other = Some it
first_of None other = other

abbrev pub wanted_of : (request : ℕ) → List Note → Option Wanted
wanted_of request [] = None
wanted_of request (note ∷ notes) = first_of (wanted_in request note) (wanted_of request notes)

abbrev pub is_offered_in : (request : ℕ) → Note → Bool
is_offered_in request (Offers other bytes) = other == request
is_offered_in request _ = false

abbrev pub is_sent_in : (request : ℕ) → Note → Bool
is_sent_in request (Sent other endpoint) = other == request
is_sent_in request _ = false

abbrev pub is_answered_in : (request : ℕ) → Note → Bool
is_answered_in request (Answers other value) = other == request
is_answered_in request _ = false

abbrev pub is_any : (Note → Bool) → List Note → Bool
is_any test [] = false
is_any test (note ∷ notes) = test note || is_any test notes

abbrev pub was_offered : (request : ℕ) → List Note → Bool
was_offered request = is_any (is_offered_in request)

abbrev pub was_sent : (request : ℕ) → List Note → Bool
was_sent request = is_any (is_sent_in request)

abbrev pub was_answered : (request : ℕ) → List Note → Bool
was_answered request = is_any (is_answered_in request)

-- ---- what users rely on
-- A request stands in line once. What is offered for it is what it is to send, whole, and not after it was sent; it is sent once, after
-- it was offered. A send that answers, answers None, once, and was sent; one that was sent raises nothing.
abbrev pub IsBorneOut : (before : List Note) → Note → Type 0
IsBorneOut before (Wants request endpoint it) = wanted_of request before ≡ None
IsBorneOut before (Offers request bytes) =
    (want : Wanted) × ((wanted_of request before ≡ Some want) × (bytes ≡ offer_text want.endpoint want.it)
    × (was_sent request before ≡ false))
IsBorneOut before (Sent request endpoint) =
    (it : Datagram) × ((wanted_of request before ≡ Some (record { endpoint = endpoint; it = it })) × (was_offered request before ≡ true)
    × (was_sent request before ≡ false))
IsBorneOut before (Answers request value) = (value ≡ Nothing) × (was_sent request before ≡ true) × (was_answered request before ≡ false)
IsBorneOut before (Raises request exception) = was_sent request before ≡ false
IsBorneOut before (Comes endpoint it) = Unit {0}
IsBorneOut before (Gives endpoint value) = Unit {0}

-- each by those before it
abbrev pub AreBorneOut : (before : List Note) → List Note → Type 0
AreBorneOut before [] = Unit {0}
AreBorneOut before (note ∷ notes) = IsBorneOut before note × AreBorneOut (before ++ note ∷ []) notes

-- What was sent is what answered. Of each endpoint, what was sent is in order of asking, each once; and what receives gave, and then
-- what is held, is part of what came, in order and each once.
pub record DatagramsKeep (notes : List Note) (kept : Endpoints) : Type 0 where
  pub borne_out : AreBorneOut [] notes
  pub alike : (request : ℕ) → was_sent request notes ≡ was_answered request notes
  pub sends : (endpoint : ℕ) → IsPartOf (sent_on endpoint notes) (wanted_on endpoint notes)
  pub receives : (endpoint : ℕ) → IsPartOf (given_on endpoint notes ++ held_on endpoint kept) (come_on endpoint notes)
