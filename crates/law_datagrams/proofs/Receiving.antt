-- Whatever happens, what receives gave, and then what is held, is part of what came.
use Rattle.std.proofs.Common.{◌≡◌, ℕ, ℤ, pos, negsuc, ◌+◌, Bool, true, false, List, [], ◌∷◌, ◌++◌, Option, Some, None, length}
use Rattle.std.proofs.Common.{refl, sym, ap, subst}
use Rattle.std.specs.Prelude.{◌==◌, codes, nat_lt, if◌then◌else◌}
use Rattle.std.specs.Fmt.{decimal}
use Rattle.std.specs.List.{AllByRecursion as Each}
use Rattle.std.specs.Map.{remove_entry}
use Rattle.model_value.specs.Input.{Input}
use Rattle.model_value.specs.Number.{number_of}
use Rattle.model_value.specs.Value.{Exc, Int, Nothing}
use Rattle.model_value.specs.declared.input.Input.TheVariants.{Send, Throw}
use Rattle.model_loop.specs.Futures.{next_future}
use Rattle.model_loop.specs.Parts.{Parts}
use Rattle.model_machine.specs.Extra as extra
use Rattle.model_machine.specs.Extra.{ExtraAnswer, ExtraCall, ExtraSaid, MakesPlain}
use Rattle.model_reach.specs.Part.{can_draw, place_of, refuses, stays}
use Rattle.model_says.specs.Operations.{out_of_range}
use Rattle.model_sync.specs.Synced.{is_place, without}
use Rattle.model_dgram.specs.Texts.{Came, Datagram, came_in, most_sent, offer_text, port_of}
use Rattle.model_dgram.specs.Endpoints as endpoints
use Rattle.model_dgram.specs.Endpoints.{Endpoint, Endpoints, Waiting, answers, dgram_part, endpoint_at, fresh, is_closed, next_key, no_endpoint, none_opened}
use Rattle.model_dgram.specs.Endpoints.{on_endpoint, raises, says, set_endpoint, wait_again, wait_last, wait_over, waiting_at, wakes_at, wakes_first, wakes_receiver}
use Rattle.model_dgram.specs.Opening.{close, is_next, no_port, open_on, opened, other_answer}
use Rattle.model_dgram.specs.Sending.{asks_again, has_room, is_answer, leaves, offer, offered, send, send_failed, sends_again, stand_last, stands_first, too_long}
use Rattle.model_dgram.specs.Receiving.{came, gives_up, hold, receive, received, receives_again, told_as, waited_for, waits_for}
use Rattle.model_dgram.specs.Serving.{Close, Open, Receive, SendTo, Wanted, asked_for, served, told, wanted_of, woken}
use Rattle.law_sync.proofs.Lists.{each_append}
use Rattle.law_datagrams.specs.Notes.{Comes, Gives, Note, Sent}
use Rattle.law_datagrams.specs.Tries.{Asks, GoesOn, HasNews, Try, asked_note, came_note, gone_note, line_note, news_note, noted, now_of, sent_note}
use Rattle.law_datagrams.specs.Tries.{wanted_note, woken_note}
use Rattle.law_datagrams.proofs.Parts.{no_more}
use Rattle.law_datagrams.proofs.Receives.{IsQuiet, KeepsReceives, closed_one, gave, held_one, kept_same, noted_quietly, opened_one, passed_over, set_quiet}

append_one : {A : Type 0} (before : List A) (x : A) (rest : List A) → before ++ x ∷ rest ≡ (before ++ x ∷ []) ++ rest
append_one [] x rest = refl
append_one (y ∷ before) x rest = ap (λ xs. y ∷ xs) (append_one before x rest)

pub noted_all : (before : List Note) (kept : Endpoints) (notes : List Note) → Each IsQuiet notes → KeepsReceives before kept
    → KeepsReceives (before ++ notes) kept
noted_all before kept [] quiet k = subst (λ ns. KeepsReceives ns kept) (sym (no_more before)) k
noted_all before kept (note ∷ notes) quiet k =
    subst (λ ns. KeepsReceives ns kept) (sym (append_one before note notes))
    (noted_all (before ++ note ∷ []) kept notes quiet.1 (noted_quietly before kept k note quiet.0))

-- ---- which notes are quiet
quiet_line : (endpoint port : ℕ) (bytes : List ℕ) (answer : ExtraAnswer) (request : ℕ) → Each IsQuiet (line_note endpoint port bytes answer request)
quiet_line endpoint port bytes (extra.Answers value) request = tt
quiet_line endpoint port bytes (extra.Raises exception) request = tt
quiet_line endpoint port bytes (extra.Waits on key) request = (λ id. (refl, refl), tt)
quiet_line endpoint port bytes (extra.Asks code text key) request = (λ id. (refl, refl), (λ id. (refl, refl), tt))

quiet_send : (endpoint port : ℤ) (bytes : List ℕ) (answer : ExtraAnswer) (request : ℕ)
    → Each IsQuiet (wanted_note (SendTo endpoint port bytes) answer request)
quiet_send (pos endpoint) (pos port) bytes answer request = quiet_line endpoint port bytes answer request
quiet_send (pos endpoint) (negsuc before) bytes answer request = tt
quiet_send (negsuc before) port bytes answer request = tt

quiet_raise : (it : Wanted) (exception : Exc) (request : ℕ) → Each IsQuiet (wanted_note it (extra.Raises exception) request)
quiet_raise (Open port) exception request = tt
quiet_raise (SendTo endpoint port bytes) exception request = quiet_send endpoint port bytes (extra.Raises exception) request
quiet_raise (Receive (pos endpoint)) exception request = tt
quiet_raise (Receive (negsuc before)) exception request = tt
quiet_raise (Close endpoint) exception request = tt

quiet_gone : (request : ℕ) (answer : ExtraAnswer) → Each IsQuiet (gone_note request answer)
quiet_gone request (extra.Answers value) = (λ id. (refl, refl), tt)
quiet_gone request (extra.Raises exception) = (λ id. (refl, refl), tt)
quiet_gone request (extra.Waits on key) = tt
quiet_gone request (extra.Asks code text key) = (λ id. (refl, refl), tt)

quiet_sent : (request endpoint : ℕ) (input : Input) → Each IsQuiet (sent_note request endpoint input)
quiet_sent request endpoint (Throw exception) = tt
quiet_sent request endpoint (Send value) = at (is_answer value (codes "sent"))
  where
    at : (b : Bool) → Each IsQuiet (if b then Sent request endpoint ∷ [] else [])
    at true = (λ id. (refl, refl), tt)
    at false = tt

module _ (before : List Note) (kept : Endpoints) (k : KeepsReceives before kept) where
  abbrev AskedSo : Wanted → ExtraSaid Endpoints → Type 0
  AskedSo it said = KeepsReceives (before ++ wanted_note it said.answer kept.drawn) said.call.state

  -- nothing is noted
  plainly : (now : Endpoints) → KeepsReceives before now → KeepsReceives (before ++ []) now
  plainly now h = subst (λ ns. KeepsReceives ns now) (sym (no_more before)) h

  -- keys and requests that wait
  beside : (now : Endpoints) → now.endpoints ≡ kept.endpoints → now.opened ≡ kept.opened → KeepsReceives before now
  beside now es n = kept_same before kept k now es n

  drew : KeepsReceives before (endpoints.draw kept)
  drew = beside (endpoints.draw kept) refl refl

  -- ---- as it is asked
  open_so : (port : ℤ) → AskedSo (Open port) (open_on port kept)
  open_so port = at (port_of port)
    where
      at : (o : Option ℕ) → AskedSo (Open port) (elim o [
        | None ↦ raises no_port kept
        | Some port ↦ says (wait_last endpoints.Opens kept) [] (extra.Asks (pos 400) (decimal port) (next_key kept))
      ])
      at None = plainly (endpoints.draw kept) drew
      at (Some port) = plainly (wait_last endpoints.Opens kept) (beside (wait_last endpoints.Opens kept) refl refl)

  close_so : (id : ℕ) (endpoint : Endpoint) (p : Parts) → KeepsReceives before (close id endpoint p kept).call.state
  close_so id endpoint p =
      kept_same before (record kept { endpoints = remove_entry (is_place id) kept.endpoints }) (closed_one before kept k id)
      (wait_last endpoints.Closes (record kept { endpoints = remove_entry (is_place id) kept.endpoints })) refl refl

  -- a send changes its line alone
  lined_so : (id : ℕ) (endpoint : Endpoint) (it : Waiting) → endpoint_at id kept ≡ Some endpoint
      → KeepsReceives before (wait_last it (set_endpoint id (stand_last kept.drawn endpoint) kept))
  lined_so id endpoint it e =
      kept_same before (set_endpoint id (stand_last kept.drawn endpoint) kept)
      (set_quiet before kept k id endpoint e (stand_last kept.drawn endpoint) refl)
      (wait_last it (set_endpoint id (stand_last kept.drawn endpoint) kept)) refl refl

  offer_so : (it : Datagram) (id : ℕ) (endpoint : Endpoint) (p : Parts) → endpoint_at id kept ≡ Some endpoint
      → KeepsReceives before (offer it id endpoint p kept).call.state
  offer_so it id endpoint p e = at endpoint.senders
    where
      at : (senders : List ℕ) → KeepsReceives before (ExtraSaid.call (elim senders [
        | [] ↦ says (wait_last (endpoints.Offers id it) (set_endpoint id (stand_last kept.drawn endpoint) kept)) []
            (extra.Asks (pos 401) (offer_text id it) (next_key kept))
        | first ∷ others ↦ says (wait_last (endpoints.Sends id it (next_future p)) (set_endpoint id (stand_last kept.drawn endpoint) kept)) (MakesPlain ∷ [])
            (extra.Waits (next_future p) (next_key kept))
      ])).state
      at [] = lined_so id endpoint (endpoints.Offers id it) e
      at (first ∷ others) = lined_so id endpoint (endpoints.Sends id it (next_future p)) e

  send_so : (port : ℤ) (bytes : List ℕ) (id : ℕ) (endpoint : Endpoint) (p : Parts) → endpoint_at id kept ≡ Some endpoint
      → KeepsReceives before (send port bytes id endpoint p kept).call.state
  send_so port bytes id endpoint p e = at (port_of port)
    where
      to : (port : ℕ) (bytes : List ℕ) → KeepsReceives before (ExtraSaid.call (elim bytes [
        | [] ↦ answers Nothing kept
        | byte ∷ more ↦ offer (record { port = port; bytes = byte ∷ more }) id endpoint p kept
      ])).state
      to port [] = drew
      to port (byte ∷ more) = offer_so (record { port = port; bytes = byte ∷ more }) id endpoint p e

      short : (port : ℕ) (b : Bool) → KeepsReceives before (ExtraSaid.call (if b then raises too_long kept else elim bytes [
        | [] ↦ answers Nothing kept
        | byte ∷ more ↦ offer (record { port = port; bytes = byte ∷ more }) id endpoint p kept
      ])).state
      short port true = drew
      short port false = to port bytes

      at : (o : Option ℕ) → KeepsReceives before (ExtraSaid.call (elim o [
        | None ↦ raises no_port kept
        | Some port ↦ if nat_lt most_sent (length bytes) then raises too_long kept else elim bytes [
          | [] ↦ answers Nothing kept
          | byte ∷ more ↦ offer (record { port = port; bytes = byte ∷ more }) id endpoint p kept
        ]
      ])).state
      at None = drew
      at (Some port) = short port (nat_lt most_sent (length bytes))

  -- on an endpoint by its number
  on_so : (next : ℕ → Endpoint → Parts → Endpoints → ExtraSaid Endpoints) (p : Parts)
      → ((id : ℕ) (endpoint : Endpoint) → endpoint_at id kept ≡ Some endpoint → KeepsReceives before (next id endpoint p kept).call.state) → (id : ℤ)
      → KeepsReceives before (on_endpoint next id p kept).call.state
  on_so next p so (negsuc past) = drew
  on_so next p so (pos id) = at (endpoint_at id kept) refl
    where
      at : (o : Option Endpoint) → endpoint_at id kept ≡ o → KeepsReceives before (ExtraSaid.call (elim o [
        | None ↦ raises (if nat_lt id kept.opened then is_closed else no_endpoint) kept
        | Some endpoint ↦ next id endpoint p kept
      ])).state
      at None e = drew
      at (Some endpoint) e = so id endpoint e

  receive_so : (id : ℕ) (p : Parts) → AskedSo (Receive (pos id)) (on_endpoint receive (pos id) p kept)
  receive_so id p = at (endpoint_at id kept) refl
    where
      wait : (endpoint : Endpoint) → endpoint_at id kept ≡ Some endpoint → (o : Option ℕ) → AskedSo (Receive (pos id)) (elim o [
        | Some other ↦ raises waited_for kept
        | None ↦ says (wait_last (endpoints.Receives id (next_future p)) (set_endpoint id (record endpoint { receiver = Some kept.drawn }) kept))
            (MakesPlain ∷ []) (extra.Waits (next_future p) (next_key kept))
      ])
      wait endpoint e (Some other) = plainly (endpoints.draw kept) drew
      wait endpoint e None =
          plainly _ (kept_same before (set_endpoint id (record endpoint { receiver = Some kept.drawn }) kept)
          (set_quiet before kept k id endpoint e (record endpoint { receiver = Some kept.drawn }) refl)
          (wait_last (endpoints.Receives id (next_future p)) (set_endpoint id (record endpoint { receiver = Some kept.drawn }) kept)) refl refl)

      of : (endpoint : Endpoint) → endpoint_at id kept ≡ Some endpoint → (held : List Datagram) → endpoint.held ≡ held
          → AskedSo (Receive (pos id)) (elim held [
            | [] ↦ waits_for id endpoint p kept
            | first ∷ others ↦ answers (told_as first) (set_endpoint id (record endpoint { held = others }) kept)
          ])
      of endpoint e [] h = wait endpoint e endpoint.receiver
      of endpoint e (first ∷ others) h =
          kept_same (before ++ Gives id (told_as first) ∷ []) (set_endpoint id (record endpoint { held = others }) kept)
          (gave before kept k id endpoint e (record endpoint { held = others }) first others h refl)
          (endpoints.draw (set_endpoint id (record endpoint { held = others }) kept)) refl refl

      at : (o : Option Endpoint) → endpoint_at id kept ≡ o → AskedSo (Receive (pos id)) (elim o [
        | None ↦ raises (if nat_lt id kept.opened then is_closed else no_endpoint) kept
        | Some endpoint ↦ receive id endpoint p kept
      ])
      at None e = plainly (endpoints.draw kept) drew
      at (Some endpoint) e = of endpoint e endpoint.held refl

  served_so : (it : Wanted) (p : Parts) → AskedSo it (served it p kept)
  served_so (Open port) p = open_so port
  served_so (SendTo endpoint port bytes) p =
      noted_all before (on_endpoint (send port bytes) endpoint p kept).call.state
      (wanted_note (SendTo endpoint port bytes) (on_endpoint (send port bytes) endpoint p kept).answer kept.drawn)
      (quiet_send endpoint port bytes (on_endpoint (send port bytes) endpoint p kept).answer kept.drawn)
      (on_so (send port bytes) p (λ id endpoint e. send_so port bytes id endpoint p e) endpoint)
  served_so (Receive (pos id)) p = receive_so id p
  served_so (Receive (negsuc past)) p = plainly (endpoints.draw kept) drew
  served_so (Close endpoint) p =
      plainly (on_endpoint close endpoint p kept).call.state (on_so close p (λ id endpoint e. close_so id endpoint p) endpoint)

  asked_so : (code : ℤ) (o : Option (Option Wanted)) (p : Parts)
      → KeepsReceives (before ++ asked_note o (asked_for code o p kept).answer kept.drawn) (asked_for code o p kept).call.state
  asked_so code None p = plainly kept k
  asked_so code (Some None) p = plainly kept k
  asked_so code (Some (Some it)) p = at (can_draw dgram_part kept.drawn 1)
    where
      at : (b : Bool) → AskedSo it (if b then served it p kept else refuses out_of_range kept)
      at true = served_so it p
      at false = noted_all before kept (wanted_note it (extra.Raises out_of_range) kept.drawn) (quiet_raise it out_of_range kept.drawn) k

  -- ---- as it goes on
  module _ (key place : ℕ) (p : Parts) where
    abbrev GoesSo : Option Waiting → Input → ExtraSaid Endpoints → Type 0
    GoesSo o input said = KeepsReceives (before ++ woken_note o place input said.answer) said.call.state

    overs : KeepsReceives before (wait_over place kept)
    overs = beside (wait_over place kept) refl refl

    opened_so : (input : Input) → GoesSo (Some endpoints.Opens) input (opened place input kept)
    opened_so (Throw exception) = plainly (wait_over place kept) overs
    opened_so (Send value) = at (is_next kept value)
      where
        at : (b : Bool) → GoesSo (Some endpoints.Opens) (Send value) (if b then says
            (record (wait_over place kept) { opened = kept.opened + 1; endpoints = kept.endpoints ++ (kept.opened, fresh) ∷ [] }) []
            (extra.Answers (Int (pos kept.opened))) else says (wait_over place kept) [] (extra.Raises other_answer))
        at true = plainly _ (opened_one before (wait_over place kept) overs)
        at false = plainly (wait_over place kept) overs

    leaves_so : (id : ℕ) (answer : ExtraAnswer) → KeepsReceives before (leaves place id answer kept).call.state
    leaves_so id answer = at (endpoint_at id kept) refl
      where
        at : (o : Option Endpoint) → endpoint_at id kept ≡ o → KeepsReceives before (ExtraSaid.call (elim o [
          | None ↦ says (wait_over place kept) [] answer
          | Some endpoint ↦ says (set_endpoint id (record endpoint { senders = without place endpoint.senders }) (wait_over place kept))
              (if stands_first place endpoint.senders then wakes_first kept (without place endpoint.senders) else []) answer
        ])).state
        at None e = overs
        at (Some endpoint) e =
            set_quiet before (wait_over place kept) overs id endpoint e (record endpoint { senders = without place endpoint.senders }) refl

    agains : (it : Waiting) → KeepsReceives before (wait_again place it kept)
    agains it = beside (wait_again place it kept) refl refl

    sends_so : (id : ℕ) (it : Datagram) (input : Input) → KeepsReceives before (sends_again key place id it input p kept).call.state
    sends_so id it (Throw exception) = leaves_so id (extra.Raises exception)
    sends_so id it (Send value) = at (endpoint_at id kept)
      where
        if_first : (b : Bool) → KeepsReceives before (ExtraSaid.call (if b
            then says (wait_again place (endpoints.Offers id it) kept) [] (extra.Asks (pos 401) (offer_text id it) key)
            else says (wait_again place (endpoints.Sends id it (next_future p)) kept) (MakesPlain ∷ []) (extra.Waits (next_future p) key))).state
        if_first true = agains (endpoints.Offers id it)
        if_first false = agains (endpoints.Sends id it (next_future p))

        at : (o : Option Endpoint) → KeepsReceives before (ExtraSaid.call (elim o [
          | None ↦ leaves place id (extra.Raises is_closed) kept
          | Some endpoint ↦ asks_again key place id it endpoint p kept
        ])).state
        at None = leaves_so id (extra.Raises is_closed)
        at (Some endpoint) = if_first (stands_first place endpoint.senders)

    offered_so : (id : ℕ) (it : Datagram) (input : Input) → KeepsReceives before (offered key place id it input p kept).call.state
    offered_so id it (Throw exception) = leaves_so id (extra.Raises exception)
    offered_so id it (Send value) = at (is_answer value (codes "sent")) (is_answer value (codes "again"))
      where
        at : (sent again : Bool) → KeepsReceives before (ExtraSaid.call (if sent then leaves place id (extra.Answers Nothing) kept
            else (if again
            then says (wait_again place (endpoints.Sends id it (next_future p)) kept) (MakesPlain ∷ []) (extra.Waits (next_future p) key)
            else leaves place id (extra.Raises send_failed) kept))).state
        at true again = leaves_so id (extra.Answers Nothing)
        at false true = agains (endpoints.Sends id it (next_future p))
        at false false = leaves_so id (extra.Raises send_failed)

    gives_up_so : (id on : ℕ) (input : Input) (exception : Exc) → GoesSo (Some (endpoints.Receives id on)) input (gives_up place id exception kept)
    gives_up_so id on input exception = at (endpoint_at id kept) refl
      where
        at : (o : Option Endpoint) → endpoint_at id kept ≡ o → GoesSo (Some (endpoints.Receives id on)) input (elim o [
          | None ↦ says (wait_over place kept) [] (extra.Raises exception)
          | Some endpoint ↦ says (set_endpoint id (record endpoint { receiver = None }) (wait_over place kept)) [] (extra.Raises exception)
        ])
        at None e = plainly (wait_over place kept) overs
        at (Some endpoint) e = plainly _ (set_quiet before (wait_over place kept) overs id endpoint e (record endpoint { receiver = None }) refl)

    receives_so : (id on : ℕ) (input : Input) → GoesSo (Some (endpoints.Receives id on)) input (receives_again key place id input p kept)
    receives_so id on (Throw exception) = gives_up_so id on (Throw exception) exception
    receives_so id on (Send value) = at (endpoint_at id kept) refl
      where
        of : (endpoint : Endpoint) → endpoint_at id kept ≡ Some endpoint → (held : List Datagram) → endpoint.held ≡ held
            → GoesSo (Some (endpoints.Receives id on)) (Send value) (elim held [
              | [] ↦ says (wait_again place (endpoints.Receives id (next_future p)) kept) (MakesPlain ∷ []) (extra.Waits (next_future p) key)
              | first ∷ others ↦ says (set_endpoint id (record endpoint { held = others; receiver = None }) (wait_over place kept)) []
                  (extra.Answers (told_as first))
            ])
        of endpoint e [] h = plainly _ (agains (endpoints.Receives id (next_future p)))
        of endpoint e (first ∷ others) h =
            gave before (wait_over place kept) overs id endpoint e (record endpoint { held = others; receiver = None }) first others h refl

        at : (o : Option Endpoint) → endpoint_at id kept ≡ o → GoesSo (Some (endpoints.Receives id on)) (Send value) (elim o [
          | None ↦ gives_up place id is_closed kept
          | Some endpoint ↦ received key place id endpoint p kept
        ])
        at None e = gives_up_so id on (Send value) is_closed
        at (Some endpoint) e = of endpoint e endpoint.held refl

    gone_so : (input : Input) (o : Option Waiting) → GoesSo o input (woken o key place input p kept)
    gone_so (Send value) None = plainly kept k
    gone_so (Throw exception) None = plainly kept k
    gone_so input (Some endpoints.Opens) = opened_so input
    gone_so input (Some (endpoints.Offers id it)) =
        noted_all before (offered key place id it input p kept).call.state
        (sent_note place id input ++ gone_note place (offered key place id it input p kept).answer)
        (each_append IsQuiet (sent_note place id input) (gone_note place (offered key place id it input p kept).answer) (quiet_sent place id input)
        (quiet_gone place (offered key place id it input p kept).answer)) (offered_so id it input)
    gone_so input (Some (endpoints.Sends id it on)) =
        noted_all before (sends_again key place id it input p kept).call.state (gone_note place (sends_again key place id it input p kept).answer)
        (quiet_gone place (sends_again key place id it input p kept).answer) (sends_so id it input)
    gone_so input (Some (endpoints.Receives id on)) = receives_so id on input
    gone_so input (Some endpoints.Closes) = plainly (wait_over place kept) overs

  -- ---- news
  room_so : (o : Option ℕ) → KeepsReceives (before ++ []) (has_room o kept).state
  room_so None = plainly kept k
  room_so (Some id) = at (endpoint_at id kept)
    where
      at : (o : Option Endpoint) → KeepsReceives (before ++ []) (ExtraCall.state (elim o [
        | None ↦ stays kept
        | Some endpoint ↦ record { state = kept; steps = wakes_first kept endpoint.senders }
      ]))
      at None = plainly kept k
      at (Some endpoint) = plainly kept k

  came_so : (o : Option Came) → KeepsReceives (before ++ came_note o) (came o kept).state
  came_so None = plainly kept k
  came_so (Some it) = at (endpoint_at it.endpoint kept) refl
    where
      at : (o : Option Endpoint) → endpoint_at it.endpoint kept ≡ o → KeepsReceives (before ++ Comes it.endpoint it.datagram ∷ []) (ExtraCall.state (elim o [
        | None ↦ stays kept
        | Some endpoint ↦ record {
          state = set_endpoint it.endpoint (record endpoint { held = hold it.datagram endpoint.held }) kept;
          steps = wakes_receiver kept endpoint.receiver;
        }
      ]))
      at None e = passed_over before kept k it.endpoint it.datagram
      at (Some endpoint) e = held_one before kept k it.endpoint endpoint e it.datagram

  news_so : (code : ℤ) (bytes : List ℕ) → KeepsReceives (before ++ news_note code bytes) (told code bytes kept).state
  news_so (negsuc past) bytes = plainly kept k
  news_so (pos code) bytes = at (code == 401) (code == 402)
    where
      at : (room comes : Bool) → KeepsReceives (before ++ (if room then [] else (if comes then came_note (came_in bytes) else [])))
          (ExtraCall.state (if room then has_room (number_of bytes) kept else (if comes then came (came_in bytes) kept else stays kept)))
      at true comes = room_so (number_of bytes)
      at false true = came_so (came_in bytes)
      at false false = plainly kept k

  pub step_receives : (it : Try) → KeepsReceives (before ++ noted it kept) (now_of it kept)
  step_receives (Asks code arguments p) = asked_so code (wanted_of code arguments) p
  step_receives (GoesOn key input p) =
      let place = place_of dgram_part key in gone_so key place p input (waiting_at place kept)
  step_receives (HasNews code bytes) = news_so code bytes

pub nothing_received : KeepsReceives [] none_opened
nothing_received = record { receives = λ id. tt; distinct = tt; numbers = tt }
