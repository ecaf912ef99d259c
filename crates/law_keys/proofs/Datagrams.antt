-- Requests on endpoints wake who waits or make a future to wait on, and stand under the keys that they drew.
use Rattle.std.proofs.Common.{◌≡◌, ℕ, ℤ, pos, negsuc, Bool, true, false, List, [], ◌∷◌, ◌+◌, ◌++◌, Option, Some, None, ap, arith, length, nat_lt}
use Rattle.std.specs.Prelude.{◌%◌, ◌==◌, codes, if◌then◌else◌, map}
use Rattle.std.specs.Fmt.{decimal}
use Rattle.std.specs.List.{AllByRecursion as Each, flat_map}
use Rattle.model_value.specs.Input.{Input}
use Rattle.model_value.specs.Number.{number_of}
use Rattle.model_value.specs.Value.{Exc, Int, Nothing}
use Rattle.model_value.specs.declared.input.Input.TheVariants.{Send, Throw}
use Rattle.model_loop.specs.Futures.{next_future}
use Rattle.model_loop.specs.Parts.{Parts}
use Rattle.model_says.specs.Operations.{out_of_range}
use Rattle.model_machine.specs.Extra.{Answers, Asks, ExtraAnswer, ExtraCall, ExtraSaid, ExtraStep, MakesPlain, Raises, Waits}
use Rattle.model_reach.specs.Part.{can_draw, key_at, only_says, passes, place_of, refuses, stays}
use Rattle.model_reach.specs.Reach.{OfDgram, OfExec, OfGather, OfSync, part_of_key}
use Rattle.model_sync.specs.Synced.{wakes, without}
use Rattle.model_dgram.specs.Texts.{Came, Datagram, came_in, most_sent, offer_text, port_of}
use Rattle.model_dgram.specs.Endpoints.{Closes, Endpoint, Endpoints, Offers, Opens, Receives, Sends, Waiting, answers, dgram_part, endpoint_at}
use Rattle.model_dgram.specs.Endpoints.{fresh, futures_of, is_closed, next_key, no_endpoint, on_endpoint, raises, says, set_endpoint, wait_again, wait_last}
use Rattle.model_dgram.specs.Endpoints.{wait_over, waiting_at, wakes_at, wakes_first, wakes_receiver}
use Rattle.model_dgram.specs.Opening.{close, is_next, no_port, open_on, opened, other_answer}
use Rattle.model_dgram.specs.Sending.{asks_again, has_room, is_answer, leaves, offer, offered, send, send_failed, sends_again, stand_last, stands_first, too_long}
use Rattle.model_dgram.specs.Receiving.{came, gives_up, hold, receive, received, receives_again, told_as, waited_for, waits_for}
use Rattle.model_dgram.specs.Serving.{Close, Open, Receive, SendTo, Wanted, asked_for, dgram_means, served, told, wanted_of, woken}
use Rattle.law_waiters.specs.Timed.{IsStepOf, KeepsToKeys, WaitsAsPart}

-- its steps and its answer stand under keys of this part
abbrev IsOfDgram : ExtraSaid Endpoints → Type 0
IsOfDgram said = Each (IsStepOf OfDgram) said.call.steps × WaitsAsPart OfDgram said.answer

key_of_dgram : (place : ℕ) → part_of_key (key_at dgram_part place) ≡ OfDgram
key_of_dgram place =
    let three : key_at dgram_part place % 4 ≡ 3 = omega arith in
    ap (λ n. if n == 0 then OfGather else (if n == 1 then OfSync else (if n == 2 then OfExec else OfDgram))) three

passed_of_dgram : (input : Input) (kept : Endpoints) → IsOfDgram (only_says (passes input) kept)
passed_of_dgram (Send value) kept = (tt, tt)
passed_of_dgram (Throw exception) kept = (tt, tt)

-- ---- who waits is woken
both_of_dgram : (steps more : List ExtraStep) → Each (IsStepOf OfDgram) steps → Each (IsStepOf OfDgram) more → Each (IsStepOf OfDgram) (steps ++ more)
both_of_dgram [] more all others = others
both_of_dgram (step ∷ steps) more all others = (all.0, both_of_dgram steps more all.1 others)

woken_futures : (ons : List ℕ) → Each (IsStepOf OfDgram) (map wakes ons)
woken_futures [] = tt
woken_futures (on ∷ ons) = (tt, woken_futures ons)

woken_at : (kept : Endpoints) (place : ℕ) → Each (IsStepOf OfDgram) (wakes_at kept place)
woken_at kept place = at (waiting_at place kept)
  where
    at : (o : Option Waiting) → Each (IsStepOf OfDgram) (elim o [ None ↦ [] | Some it ↦ map wakes (futures_of it) ])
    at None = tt
    at (Some it) = woken_futures (futures_of it)

woken_first : (kept : Endpoints) (places : List ℕ) → Each (IsStepOf OfDgram) (wakes_first kept places)
woken_first kept [] = tt
woken_first kept (place ∷ places) = woken_at kept place

woken_receiver : (kept : Endpoints) (o : Option ℕ) → Each (IsStepOf OfDgram) (wakes_receiver kept o)
woken_receiver kept None = tt
woken_receiver kept (Some place) = woken_at kept place

woken_all : (kept : Endpoints) (places : List ℕ) → Each (IsStepOf OfDgram) (flat_map (wakes_at kept) places)
woken_all kept [] = tt
woken_all kept (place ∷ places) = both_of_dgram (wakes_at kept place) (flat_map (wakes_at kept) places) (woken_at kept place) (woken_all kept places)

-- ---- as it is asked
opens_of_dgram : (port : ℤ) (kept : Endpoints) → IsOfDgram (open_on port kept)
opens_of_dgram port kept = at (port_of port)
  where
    at : (o : Option ℕ)
        → IsOfDgram (elim o [ None ↦ raises no_port kept | Some it ↦ says (wait_last Opens kept) [] (Asks (pos 400) (decimal it) (next_key kept)) ])
    at None = (tt, tt)
    at (Some it) = (tt, key_of_dgram kept.drawn)

offers_of_dgram : (it : Datagram) (id : ℕ) (endpoint : Endpoint) (p : Parts) (kept : Endpoints) → IsOfDgram (offer it id endpoint p kept)
offers_of_dgram it id endpoint p kept = at endpoint.senders
  where
    at : (senders : List ℕ)
        → IsOfDgram
        (elim senders [
          | [] ↦
              says (wait_last (Offers id it) (set_endpoint id (stand_last kept.drawn endpoint) kept)) []
              (Asks (pos 401) (offer_text id it) (next_key kept))
          | first ∷ others ↦
              says (wait_last (Sends id it (next_future p)) (set_endpoint id (stand_last kept.drawn endpoint) kept)) (MakesPlain ∷ [])
              (Waits (next_future p) (next_key kept))
        ])
    at [] = (tt, key_of_dgram kept.drawn)
    at (first ∷ others) = ((tt, tt), key_of_dgram kept.drawn)

sends_of_dgram : (port : ℤ) (bytes : List ℕ) (id : ℕ) (endpoint : Endpoint) (p : Parts) (kept : Endpoints) → IsOfDgram (send port bytes id endpoint p kept)
sends_of_dgram port bytes id endpoint p kept = by (port_of port)
  where
    some : (it : ℕ) (bytes : List ℕ)
        → IsOfDgram
        (elim bytes [
          | [] ↦ answers Nothing kept
          | byte ∷ more ↦ offer (record { port = it; bytes = byte ∷ more }) id endpoint p kept
        ])
    some it [] = (tt, tt)
    some it (byte ∷ more) = offers_of_dgram (record { port = it; bytes = byte ∷ more }) id endpoint p kept

    at : (b : Bool) (it : ℕ)
        → IsOfDgram
        (if b then raises too_long kept
        else elim bytes [
          | [] ↦ answers Nothing kept
          | byte ∷ more ↦ offer (record { port = it; bytes = byte ∷ more }) id endpoint p kept
        ])
    at true it = (tt, tt)
    at false it = some it bytes

    by : (o : Option ℕ)
        → IsOfDgram
        (elim o [
          | None ↦ raises no_port kept
          | Some it ↦
              if nat_lt most_sent (length bytes) then raises too_long kept
              else elim bytes [
                | [] ↦ answers Nothing kept
                | byte ∷ more ↦ offer (record { port = it; bytes = byte ∷ more }) id endpoint p kept
              ]
        ])
    by None = (tt, tt)
    by (Some it) = at (nat_lt most_sent (length bytes)) it

waits_of_dgram : (id : ℕ) (endpoint : Endpoint) (p : Parts) (kept : Endpoints) → IsOfDgram (waits_for id endpoint p kept)
waits_of_dgram id endpoint p kept = at endpoint.receiver
  where
    at : (o : Option ℕ)
        → IsOfDgram
        (elim o [
          | Some other ↦ raises waited_for kept
          | None ↦
              says (wait_last (Receives id (next_future p)) (set_endpoint id (record endpoint { receiver = Some kept.drawn }) kept))
              (MakesPlain ∷ []) (Waits (next_future p) (next_key kept))
        ])
    at (Some other) = (tt, tt)
    at None = ((tt, tt), key_of_dgram kept.drawn)

receives_of_dgram : (id : ℕ) (endpoint : Endpoint) (p : Parts) (kept : Endpoints) → IsOfDgram (receive id endpoint p kept)
receives_of_dgram id endpoint p kept = at endpoint.held
  where
    at : (held : List Datagram)
        → IsOfDgram
        (elim held [
          | [] ↦ waits_for id endpoint p kept
          | first ∷ others ↦ answers (told_as first) (set_endpoint id (record endpoint { held = others }) kept)
        ])
    at [] = waits_of_dgram id endpoint p kept
    at (first ∷ others) = (tt, tt)

closes_of_dgram : (id : ℕ) (endpoint : Endpoint) (p : Parts) (kept : Endpoints) → IsOfDgram (close id endpoint p kept)
closes_of_dgram id endpoint p kept = (
  both_of_dgram (flat_map (wakes_at kept) endpoint.senders) (wakes_receiver kept endpoint.receiver) (woken_all kept endpoint.senders)
      (woken_receiver kept endpoint.receiver),
  key_of_dgram kept.drawn,
)

on_endpoint_of : (next_ : (id : ℕ) → Endpoint → Parts → Endpoints → ExtraSaid Endpoints)
    → ((id : ℕ) (endpoint : Endpoint) (p : Parts) (kept : Endpoints) → IsOfDgram (next_ id endpoint p kept)) → (id : ℤ) (p : Parts) (kept : Endpoints)
    → IsOfDgram (on_endpoint next_ id p kept)
on_endpoint_of next_ each (negsuc before) p kept = (tt, tt)
on_endpoint_of next_ each (pos id) p kept = at (endpoint_at id kept)
  where
    at : (o : Option Endpoint)
        → IsOfDgram
        (elim o [
          | None ↦ raises (if nat_lt id kept.opened then is_closed else no_endpoint) kept
          | Some endpoint ↦ next_ id endpoint p kept
        ])
    at None = (tt, tt)
    at (Some endpoint) = each id endpoint p kept

served_of_dgram : (wanted : Wanted) (p : Parts) (kept : Endpoints) → IsOfDgram (served wanted p kept)
served_of_dgram (Open port) p kept = opens_of_dgram port kept
served_of_dgram (SendTo endpoint port bytes) p kept = on_endpoint_of (send port bytes) (sends_of_dgram port bytes) endpoint p kept
served_of_dgram (Receive endpoint) p kept = on_endpoint_of receive receives_of_dgram endpoint p kept
served_of_dgram (Close endpoint) p kept = on_endpoint_of close closes_of_dgram endpoint p kept

asked_of_dgram : (code : ℤ) (o : Option (Option Wanted)) (p : Parts) (kept : Endpoints) → IsOfDgram (asked_for code o p kept)
asked_of_dgram code None p kept = (tt, tt)
asked_of_dgram code (Some None) p kept = (tt, tt)
asked_of_dgram code (Some (Some wanted)) p kept = at (can_draw dgram_part kept.drawn 1)
  where
    at : (b : Bool) → IsOfDgram (if b then served wanted p kept else refuses out_of_range kept)
    at true = served_of_dgram wanted p kept
    at false = (tt, tt)

-- ---- as it is woken
leaves_of_dgram : (place id : ℕ) (answer : ExtraAnswer) (kept : Endpoints) → WaitsAsPart OfDgram answer → IsOfDgram (leaves place id answer kept)
leaves_of_dgram place id answer kept of = at (endpoint_at id kept)
  where
    first_if : (endpoint : Endpoint) (b : Bool)
        → Each (IsStepOf OfDgram) (if b then wakes_first kept (without place endpoint.senders) else [])
    first_if endpoint true = woken_first kept (without place endpoint.senders)
    first_if endpoint false = tt

    at : (o : Option Endpoint)
        → IsOfDgram
        (elim o [
          | None ↦ says (wait_over place kept) [] answer
          | Some endpoint ↦
              let senders = without place endpoint.senders in
              says (set_endpoint id (record endpoint { senders = senders }) (wait_over place kept))
              (if stands_first place endpoint.senders then wakes_first kept senders else []) answer
        ])
    at None = (tt, of)
    at (Some endpoint) = (first_if endpoint (stands_first place endpoint.senders), of)

module _ (key place : ℕ) (p : Parts) (kept : Endpoints) (of : part_of_key key ≡ OfDgram) where
  opened_of : (input : Input) → IsOfDgram (opened place input kept)
  opened_of (Throw exception) = (tt, tt)
  opened_of (Send value) = at (is_next kept value)
    where
      at : (b : Bool)
          → IsOfDgram
          (if b
          then says
          (record (wait_over place kept) { opened = kept.opened + 1; endpoints = kept.endpoints ++ (kept.opened, fresh) ∷ [] }) []
          (Answers (Int (pos kept.opened)))
          else says (wait_over place kept) [] (Raises other_answer))
      at true = (tt, tt)
      at false = (tt, tt)

  offered_of : (id : ℕ) (it : Datagram) (input : Input) → IsOfDgram (offered key place id it input p kept)
  offered_of id it (Throw exception) = leaves_of_dgram place id (Raises exception) kept tt
  offered_of id it (Send value) = at (is_answer value (codes "sent"))
    where
      again : (b : Bool)
          → IsOfDgram
          (if b
          then says (wait_again place (Sends id it (next_future p)) kept) (MakesPlain ∷ []) (Waits (next_future p) key)
          else leaves place id (Raises send_failed) kept)
      again true = ((tt, tt), of)
      again false = leaves_of_dgram place id (Raises send_failed) kept tt

      at : (b : Bool)
          → IsOfDgram
          (if b then leaves place id (Answers Nothing) kept
          else (if is_answer value (codes "again")
          then says (wait_again place (Sends id it (next_future p)) kept) (MakesPlain ∷ []) (Waits (next_future p) key)
          else leaves place id (Raises send_failed) kept))
      at true = leaves_of_dgram place id (Answers Nothing) kept tt
      at false = again (is_answer value (codes "again"))

  sends_again_of : (id : ℕ) (it : Datagram) (input : Input) → IsOfDgram (sends_again key place id it input p kept)
  sends_again_of id it (Throw exception) = leaves_of_dgram place id (Raises exception) kept tt
  sends_again_of id it (Send value) = at (endpoint_at id kept)
    where
      if_first : (b : Bool)
          → IsOfDgram
          (if b then says (wait_again place (Offers id it) kept) [] (Asks (pos 401) (offer_text id it) key)
          else says (wait_again place (Sends id it (next_future p)) kept) (MakesPlain ∷ []) (Waits (next_future p) key))
      if_first true = (tt, of)
      if_first false = ((tt, tt), of)

      at : (o : Option Endpoint)
          → IsOfDgram
          (elim o [
            | None ↦ leaves place id (Raises is_closed) kept
            | Some endpoint ↦ asks_again key place id it endpoint p kept
          ])
      at None = leaves_of_dgram place id (Raises is_closed) kept tt
      at (Some endpoint) = if_first (stands_first place endpoint.senders)

  gives_up_of : (id : ℕ) (fault : Exc) → IsOfDgram (gives_up place id fault kept)
  gives_up_of id fault = at (endpoint_at id kept)
    where
      at : (o : Option Endpoint)
          → IsOfDgram
          (elim o [
            | None ↦ says (wait_over place kept) [] (Raises fault)
            | Some endpoint ↦ says (set_endpoint id (record endpoint { receiver = None }) (wait_over place kept)) [] (Raises fault)
          ])
      at None = (tt, tt)
      at (Some endpoint) = (tt, tt)

  received_of : (id : ℕ) (endpoint : Endpoint) → IsOfDgram (received key place id endpoint p kept)
  received_of id endpoint = at endpoint.held
    where
      at : (held : List Datagram)
          → IsOfDgram
          (elim held [
            | [] ↦ says (wait_again place (Receives id (next_future p)) kept) (MakesPlain ∷ []) (Waits (next_future p) key)
            | first ∷ others ↦
                says (set_endpoint id (record endpoint { held = others; receiver = None }) (wait_over place kept)) []
                (Answers (told_as first))
          ])
      at [] = ((tt, tt), of)
      at (first ∷ others) = (tt, tt)

  receives_again_of : (id : ℕ) (input : Input) → IsOfDgram (receives_again key place id input p kept)
  receives_again_of id (Throw exception) = gives_up_of id exception
  receives_again_of id (Send value) = at (endpoint_at id kept)
    where
      at : (o : Option Endpoint)
          → IsOfDgram
          (elim o [ None ↦ gives_up place id is_closed kept | Some endpoint ↦ received key place id endpoint p kept ])
      at None = gives_up_of id is_closed
      at (Some endpoint) = received_of id endpoint

  woken_of_dgram : (input : Input) (o : Option Waiting) → IsOfDgram (woken o key place input p kept)
  woken_of_dgram input None = passed_of_dgram input kept
  woken_of_dgram input (Some Opens) = opened_of input
  woken_of_dgram input (Some (Offers id it)) = offered_of id it input
  woken_of_dgram input (Some (Sends id it on)) = sends_again_of id it input
  woken_of_dgram input (Some (Receives id on)) = receives_again_of id input
  woken_of_dgram input (Some Closes) = (tt, tt)

-- ---- news
abbrev IsCallOfDgram : ExtraCall Endpoints → Type 0
IsCallOfDgram call = Each (IsStepOf OfDgram) call.steps

room_of_dgram : (o : Option ℕ) (kept : Endpoints) → IsCallOfDgram (has_room o kept)
room_of_dgram None kept = tt
room_of_dgram (Some id) kept = at (endpoint_at id kept)
  where
    at : (o : Option Endpoint)
        → IsCallOfDgram (elim o [ None ↦ stays kept | Some endpoint ↦ record { state = kept; steps = wakes_first kept endpoint.senders } ])
    at None = tt
    at (Some endpoint) = woken_first kept endpoint.senders

came_of_dgram : (o : Option Came) (kept : Endpoints) → IsCallOfDgram (came o kept)
came_of_dgram None kept = tt
came_of_dgram (Some it) kept = at (endpoint_at it.endpoint kept)
  where
    at : (o : Option Endpoint)
        → IsCallOfDgram
        (elim o [
          | None ↦ stays kept
          | Some endpoint ↦
              record {
                state = set_endpoint it.endpoint (record endpoint { held = hold it.datagram endpoint.held }) kept;
                steps = wakes_receiver kept endpoint.receiver;
              }
        ])
    at None = tt
    at (Some endpoint) = woken_receiver kept endpoint.receiver

told_of_dgram : (code : ℤ) (bytes : List ℕ) (kept : Endpoints) → IsCallOfDgram (told code bytes kept)
told_of_dgram (negsuc before) bytes kept = tt
told_of_dgram (pos code) bytes kept = at (code == 401)
  where
    other : (b : Bool) → IsCallOfDgram (if b then came (came_in bytes) kept else stays kept)
    other true = came_of_dgram (came_in bytes) kept
    other false = tt

    at : (b : Bool)
        → IsCallOfDgram (if b then has_room (number_of bytes) kept else (if code == 402 then came (came_in bytes) kept else stays kept))
    at true = room_of_dgram (number_of bytes) kept
    at false = other (code == 402)

pub dgram_keeps_to_keys : KeepsToKeys OfDgram dgram_means
dgram_keeps_to_keys = record {
  ask = λ task code arguments s. asked_of_dgram code (wanted_of code arguments) s.loop.parts s.extra;
  wake = λ key input s of.
      woken_of_dgram key (place_of dgram_part key) s.loop.parts s.extra of input (waiting_at (place_of dgram_part key) s.extra);
  act = λ key s of. tt;
  item = λ code bytes s. told_of_dgram code bytes s.extra;
}
