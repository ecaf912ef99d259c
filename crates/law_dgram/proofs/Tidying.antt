-- Each call keeps what is kept tidy.
use Rattle.std.proofs.Common.{◌≡◌, ℕ, ℤ, pos, negsuc, ◌+◌, ◌<◌, Bool, true, false, cond, not, List, [], ◌∷◌, ◌++◌, Option, Some, None, length, refl, arith}
use Rattle.std.specs.Prelude.{◌==◌, codes, nat_lt, if◌then◌else◌}
use Rattle.std.specs.Fmt.{decimal}
use Rattle.std.specs.List.{AllByRecursion as Each}
use Rattle.std.specs.Map.{remove_entry, set_value}
use Rattle.model_value.specs.Input.{Input}
use Rattle.model_value.specs.Number.{number_of}
use Rattle.model_value.specs.Value.{Exc, Int, Nothing}
use Rattle.model_value.specs.declared.input.Input.TheVariants.{Send, Throw}
use Rattle.model_loop.specs.Futures.{next_future}
use Rattle.model_loop.specs.Parts.{Parts}
use Rattle.model_machine.specs.Extra.{Answers, Asks, ExtraAnswer, ExtraCall, ExtraSaid, MakesPlain, Raises, Waits}
use Rattle.model_reach.specs.Part.{can_draw, refuses, stays}
use Rattle.model_says.specs.Operations.{out_of_range}
use Rattle.model_sync.specs.Synced.{is_place, without}
use Rattle.model_dgram.specs.Texts.{Came, Datagram, came_in, most_sent, offer_text, port_of}
use Rattle.model_dgram.specs.Endpoints.{Closes, Endpoint, Endpoints, Offers, Opens, Receives, Sends, Waiting, answers, dgram_part, endpoint_at, fresh}
use Rattle.model_dgram.specs.Endpoints.{is_closed, next_key, no_endpoint, none_opened, on_endpoint, raises, says, set_endpoint, wait_again, wait_last, wait_over}
use Rattle.model_dgram.specs.Endpoints.{wakes_first, wakes_receiver}
use Rattle.model_dgram.specs.Opening.{close, is_next, no_port, open_on, opened, other_answer}
use Rattle.model_dgram.specs.Sending.{asks_again, has_room, is_answer, leaves, offer, offered, send, send_failed, sends_again, stand_last, stands_first, too_long}
use Rattle.model_dgram.specs.Receiving.{came, gives_up, hold, receive, received, receives_again, told_as, waited_for, waits_for}
use Rattle.model_dgram.specs.Serving.{Close, Open, Receive, SendTo, Wanted, asked_for, served, told, woken}
use Rattle.law_sync.proofs.Lists.{each_append, each_filter, each_found, each_on, each_removed}
use Rattle.law_dgram.specs.Tidy.{IsLined, IsTidy}

-- ---- entries
module _ {A : Type 0} (P : ℕ × A → Type 0) (test : ℕ → Bool) where
  -- one is replaced by one of which this is so under the same key
  pub each_changed : (xs : List (ℕ × A)) (it : A) → Each P xs → ((key : ℕ) (old : A) → P (key, old) → P (key, it)) → Each P (set_value test xs it)
  each_changed [] it a on = tt
  each_changed (x ∷ xs) it a on = at (each_changed xs it a.1 on) (test x.0)
    where
      at : Each P (set_value test xs it) → (c : Bool) → Each P (cond c ((x.0, it) ∷ xs) (x ∷ set_value test xs it))
      at rest true = (on x.0 x.1 a.0, a.1)
      at rest false = (a.0, rest)

-- ---- states
module _ (kept : Endpoints) (tidy : IsTidy kept) where
  lined_more : Each (IsLined (kept.drawn + 1)) kept.endpoints
  lined_more =
      each_on (IsLined kept.drawn) (IsLined (kept.drawn + 1))
      (λ entry a. each_on (λ place. place < kept.drawn) (λ place. place < kept.drawn + 1) (λ place l. omega (arith, l)) entry.1.senders a) kept.endpoints
      tidy.lines

  pub tidy_draw : IsTidy (record kept { drawn = kept.drawn + 1 })
  tidy_draw = record {
    places =
        each_on (λ (entry : ℕ × Waiting). entry.0 < kept.drawn) (λ (entry : ℕ × Waiting). entry.0 < kept.drawn + 1) (λ entry l. omega (arith, l))
        kept.waiting tidy.places;
    numbers = tidy.numbers;
    lines = lined_more;
  }

  pub tidy_last : (it : Waiting) → IsTidy (wait_last it kept)
  tidy_last it = record {
    places =
        each_append (λ (entry : ℕ × Waiting). entry.0 < kept.drawn + 1) kept.waiting ((kept.drawn, it) ∷ []) tidy_draw.places (omega arith, tt);
    numbers = tidy.numbers;
    lines = lined_more;
  }

  pub tidy_again : (place : ℕ) (it : Waiting) → IsTidy (wait_again place it kept)
  tidy_again place it = record {
    places = each_changed (λ (entry : ℕ × Waiting). entry.0 < kept.drawn) (is_place place) kept.waiting it tidy.places (λ key old l. l);
    numbers = tidy.numbers;
    lines = tidy.lines;
  }

  pub tidy_over : (place : ℕ) → IsTidy (wait_over place kept)
  tidy_over place = record {
    places = each_removed (λ (entry : ℕ × Waiting). entry.0 < kept.drawn) (is_place place) kept.waiting tidy.places;
    numbers = tidy.numbers;
    lines = tidy.lines;
  }

  -- a line of those who were asked before
  pub tidy_set : (id : ℕ) (endpoint : Endpoint) → Each (λ place. place < kept.drawn) endpoint.senders → IsTidy (set_endpoint id endpoint kept)
  tidy_set id endpoint lined = record {
    places = tidy.places;
    numbers = each_changed (λ (entry : ℕ × Endpoint). entry.0 < kept.opened) (is_place id) kept.endpoints endpoint tidy.numbers (λ key old l. l);
    lines = each_changed (IsLined kept.drawn) (is_place id) kept.endpoints endpoint tidy.lines (λ key old l. lined);
  }

  -- one who is asked now stands last, and waits
  pub tidy_stands : (id : ℕ) (endpoint : Endpoint) → Each (λ place. place < kept.drawn) endpoint.senders → (it : Waiting)
      → IsTidy (wait_last it (set_endpoint id (stand_last kept.drawn endpoint) kept))
  tidy_stands id endpoint lined it = record {
    places = (tidy_last it).places;
    numbers =
        each_changed (λ (entry : ℕ × Endpoint). entry.0 < kept.opened) (is_place id) kept.endpoints (stand_last kept.drawn endpoint) tidy.numbers
        (λ key old l. l);
    lines =
        each_changed (IsLined (kept.drawn + 1)) (is_place id) kept.endpoints (stand_last kept.drawn endpoint) lined_more
        (λ key old l. each_append (λ place. place < kept.drawn + 1) endpoint.senders (kept.drawn ∷ [])
        (each_on (λ place. place < kept.drawn) (λ place. place < kept.drawn + 1) (λ place less. omega (arith, less)) endpoint.senders lined)
        (omega arith, tt));
  }

  pub tidy_open : IsTidy (record kept { opened = kept.opened + 1; endpoints = kept.endpoints ++ (kept.opened, fresh) ∷ [] })
  tidy_open = record {
    places = tidy.places;
    numbers =
        each_append (λ (entry : ℕ × Endpoint). entry.0 < kept.opened + 1) kept.endpoints ((kept.opened, fresh) ∷ [])
        (each_on (λ (entry : ℕ × Endpoint). entry.0 < kept.opened) (λ (entry : ℕ × Endpoint). entry.0 < kept.opened + 1) (λ entry l. omega (arith, l))
        kept.endpoints tidy.numbers) (omega arith, tt);
    lines = each_append (IsLined kept.drawn) kept.endpoints ((kept.opened, fresh) ∷ []) tidy.lines (tt, tt);
  }

  pub tidy_close : (id : ℕ) → IsTidy (record kept { endpoints = remove_entry (is_place id) kept.endpoints })
  tidy_close id = record {
    places = tidy.places;
    numbers = each_removed (λ (entry : ℕ × Endpoint). entry.0 < kept.opened) (is_place id) kept.endpoints tidy.numbers;
    lines = each_removed (IsLined kept.drawn) (is_place id) kept.endpoints tidy.lines;
  }

  -- the line of an endpoint that is found
  pub lined_at : (id : ℕ) (endpoint : Endpoint) → endpoint_at id kept ≡ Some endpoint → Each (λ place. place < kept.drawn) endpoint.senders
  lined_at id endpoint e = (each_found (IsLined kept.drawn) (is_place id) kept.endpoints endpoint e tidy.lines).1

-- ---- calls
abbrev pub TidyAfter : ExtraSaid Endpoints → Type 0
TidyAfter said = IsTidy said.call.state

module _ (p : Parts) (kept : Endpoints) (tidy : IsTidy kept) where
  raises_tidy : (exception : Exc) → TidyAfter (raises exception kept)
  raises_tidy exception = tidy_draw kept tidy

  open_tidy : (port : ℤ) → TidyAfter (open_on port kept)
  open_tidy port = at (port_of port)
    where
      at : (o : Option ℕ) → TidyAfter (elim o [
        | None ↦ raises no_port kept
        | Some port ↦ says (wait_last Opens kept) [] (Asks (pos 400) (decimal port) (next_key kept))
      ])
      at None = raises_tidy no_port
      at (Some port) = tidy_last kept tidy Opens

  opened_tidy : (place : ℕ) (input : Input) → TidyAfter (opened place input kept)
  opened_tidy place (Throw exception) = tidy_over kept tidy place
  opened_tidy place (Send value) = at (is_next kept value)
    where
      at : (b : Bool) → TidyAfter (if b then says
          (record (wait_over place kept) { opened = kept.opened + 1; endpoints = kept.endpoints ++ (kept.opened, fresh) ∷ [] }) []
          (Answers (Int (pos kept.opened))) else says (wait_over place kept) [] (Raises other_answer))
      at true = tidy_open (wait_over place kept) (tidy_over kept tidy place)
      at false = tidy_over kept tidy place

  close_tidy : (id : ℕ) (endpoint : Endpoint) → endpoint_at id kept ≡ Some endpoint → TidyAfter (close id endpoint p kept)
  close_tidy id endpoint e = tidy_last (record kept { endpoints = remove_entry (is_place id) kept.endpoints }) (tidy_close kept tidy id) Closes

  offer_tidy : (it : Datagram) (id : ℕ) (endpoint : Endpoint) → endpoint_at id kept ≡ Some endpoint → TidyAfter (offer it id endpoint p kept)
  offer_tidy it id endpoint e = at endpoint.senders
    where
      at : (senders : List ℕ) → TidyAfter (elim senders [
        | [] ↦ says (wait_last (Offers id it) (set_endpoint id (stand_last kept.drawn endpoint) kept)) []
            (Asks (pos 401) (offer_text id it) (next_key kept))
        | first ∷ others ↦ says (wait_last (Sends id it (next_future p)) (set_endpoint id (stand_last kept.drawn endpoint) kept)) (MakesPlain ∷ [])
            (Waits (next_future p) (next_key kept))
      ])
      at [] = tidy_stands kept tidy id endpoint (lined_at kept tidy id endpoint e) (Offers id it)
      at (first ∷ others) = tidy_stands kept tidy id endpoint (lined_at kept tidy id endpoint e) (Sends id it (next_future p))

  send_tidy : (port : ℤ) (bytes : List ℕ) (id : ℕ) (endpoint : Endpoint) → endpoint_at id kept ≡ Some endpoint
      → TidyAfter (send port bytes id endpoint p kept)
  send_tidy port bytes id endpoint e = at (port_of port)
    where
      to : (port : ℕ) (bytes : List ℕ) → TidyAfter (elim bytes [
        | [] ↦ answers Nothing kept
        | byte ∷ more ↦ offer (record { port = port; bytes = byte ∷ more }) id endpoint p kept
      ])
      to port [] = tidy_draw kept tidy
      to port (byte ∷ more) = offer_tidy (record { port = port; bytes = byte ∷ more }) id endpoint e

      short : (port : ℕ) (b : Bool) → TidyAfter (if b then raises too_long kept else elim bytes [
        | [] ↦ answers Nothing kept
        | byte ∷ more ↦ offer (record { port = port; bytes = byte ∷ more }) id endpoint p kept
      ])
      short port true = raises_tidy too_long
      short port false = to port bytes

      at : (o : Option ℕ) → TidyAfter (elim o [
        | None ↦ raises no_port kept
        | Some port ↦ if nat_lt most_sent (length bytes) then raises too_long kept else elim bytes [
          | [] ↦ answers Nothing kept
          | byte ∷ more ↦ offer (record { port = port; bytes = byte ∷ more }) id endpoint p kept
        ]
      ])
      at None = raises_tidy no_port
      at (Some port) = short port (nat_lt most_sent (length bytes))

  leaves_tidy : (place id : ℕ) (answer : ExtraAnswer) → TidyAfter (leaves place id answer kept)
  leaves_tidy place id answer = at (endpoint_at id kept) refl
    where
      at : (o : Option Endpoint) → endpoint_at id kept ≡ o → TidyAfter (elim o [
        | None ↦ says (wait_over place kept) [] answer
        | Some endpoint ↦ says (set_endpoint id (record endpoint { senders = without place endpoint.senders }) (wait_over place kept))
            (if stands_first place endpoint.senders then wakes_first kept (without place endpoint.senders) else []) answer
      ])
      at None e = tidy_over kept tidy place
      at (Some endpoint) e =
          tidy_set (wait_over place kept) (tidy_over kept tidy place) id (record endpoint { senders = without place endpoint.senders })
          (each_filter (λ other. other < kept.drawn) (λ other. not (other == place)) endpoint.senders (lined_at kept tidy id endpoint e))

  sends_tidy : (key place id : ℕ) (it : Datagram) (input : Input) → TidyAfter (sends_again key place id it input p kept)
  sends_tidy key place id it (Throw exception) = leaves_tidy place id (Raises exception)
  sends_tidy key place id it (Send value) = at (endpoint_at id kept)
    where
      if_first : (b : Bool) → TidyAfter (if b then says (wait_again place (Offers id it) kept) [] (Asks (pos 401) (offer_text id it) key)
          else says (wait_again place (Sends id it (next_future p)) kept) (MakesPlain ∷ []) (Waits (next_future p) key))
      if_first true = tidy_again kept tidy place (Offers id it)
      if_first false = tidy_again kept tidy place (Sends id it (next_future p))

      at : (o : Option Endpoint) → TidyAfter (elim o [
        | None ↦ leaves place id (Raises is_closed) kept
        | Some endpoint ↦ asks_again key place id it endpoint p kept
      ])
      at None = leaves_tidy place id (Raises is_closed)
      at (Some endpoint) = if_first (stands_first place endpoint.senders)

  offered_tidy : (key place id : ℕ) (it : Datagram) (input : Input) → TidyAfter (offered key place id it input p kept)
  offered_tidy key place id it (Throw exception) = leaves_tidy place id (Raises exception)
  offered_tidy key place id it (Send value) = at (is_answer value (codes "sent")) (is_answer value (codes "again"))
    where
      at : (sent again : Bool) → TidyAfter (if sent then leaves place id (Answers Nothing) kept
          else (if again
          then says (wait_again place (Sends id it (next_future p)) kept) (MakesPlain ∷ []) (Waits (next_future p) key)
          else leaves place id (Raises send_failed) kept))
      at true again = leaves_tidy place id (Answers Nothing)
      at false true = tidy_again kept tidy place (Sends id it (next_future p))
      at false false = leaves_tidy place id (Raises send_failed)

  receive_tidy : (id : ℕ) (endpoint : Endpoint) → endpoint_at id kept ≡ Some endpoint → TidyAfter (receive id endpoint p kept)
  receive_tidy id endpoint e = at endpoint.held
    where
      lined : Each (λ place. place < kept.drawn) endpoint.senders
      lined = lined_at kept tidy id endpoint e

      waits : (o : Option ℕ) → TidyAfter (elim o [
        | Some other ↦ raises waited_for kept
        | None ↦ says (wait_last (Receives id (next_future p)) (set_endpoint id (record endpoint { receiver = Some kept.drawn }) kept))
            (MakesPlain ∷ []) (Waits (next_future p) (next_key kept))
      ])
      waits (Some other) = raises_tidy waited_for
      waits None =
          tidy_last (set_endpoint id (record endpoint { receiver = Some kept.drawn }) kept)
          (tidy_set kept tidy id (record endpoint { receiver = Some kept.drawn }) lined) (Receives id (next_future p))

      at : (held : List Datagram) → TidyAfter (elim held [
        | [] ↦ waits_for id endpoint p kept
        | first ∷ others ↦ answers (told_as first) (set_endpoint id (record endpoint { held = others }) kept)
      ])
      at [] = waits endpoint.receiver
      at (first ∷ others) =
          tidy_draw (set_endpoint id (record endpoint { held = others }) kept) (tidy_set kept tidy id (record endpoint { held = others }) lined)

  gives_up_tidy : (place id : ℕ) (exception : Exc) → TidyAfter (gives_up place id exception kept)
  gives_up_tidy place id exception = at (endpoint_at id kept) refl
    where
      at : (o : Option Endpoint) → endpoint_at id kept ≡ o → TidyAfter (elim o [
        | None ↦ says (wait_over place kept) [] (Raises exception)
        | Some endpoint ↦ says (set_endpoint id (record endpoint { receiver = None }) (wait_over place kept)) [] (Raises exception)
      ])
      at None e = tidy_over kept tidy place
      at (Some endpoint) e =
          tidy_set (wait_over place kept) (tidy_over kept tidy place) id (record endpoint { receiver = None }) (lined_at kept tidy id endpoint e)

  receives_tidy : (key place id : ℕ) (input : Input) → TidyAfter (receives_again key place id input p kept)
  receives_tidy key place id (Throw exception) = gives_up_tidy place id exception
  receives_tidy key place id (Send value) = at (endpoint_at id kept) refl
    where
      of : (endpoint : Endpoint) → endpoint_at id kept ≡ Some endpoint → (held : List Datagram) → TidyAfter (elim held [
        | [] ↦ says (wait_again place (Receives id (next_future p)) kept) (MakesPlain ∷ []) (Waits (next_future p) key)
        | first ∷ others ↦ says (set_endpoint id (record endpoint { held = others; receiver = None }) (wait_over place kept)) []
            (Answers (told_as first))
      ])
      of endpoint e [] = tidy_again kept tidy place (Receives id (next_future p))
      of endpoint e (first ∷ others) =
          tidy_set (wait_over place kept) (tidy_over kept tidy place) id (record endpoint { held = others; receiver = None })
          (lined_at kept tidy id endpoint e)

      at : (o : Option Endpoint) → endpoint_at id kept ≡ o → TidyAfter (elim o [
        | None ↦ gives_up place id is_closed kept
        | Some endpoint ↦ received key place id endpoint p kept
      ])
      at None e = gives_up_tidy place id is_closed
      at (Some endpoint) e = of endpoint e endpoint.held

  on_tidy : (next_ : ℕ → Endpoint → Parts → Endpoints → ExtraSaid Endpoints)
      → ((id : ℕ) (endpoint : Endpoint) → endpoint_at id kept ≡ Some endpoint → TidyAfter (next_ id endpoint p kept)) → (id : ℤ)
      → TidyAfter (on_endpoint next_ id p kept)
  on_tidy next_ comes (negsuc before) = raises_tidy no_endpoint
  on_tidy next_ comes (pos id) = at (endpoint_at id kept) refl
    where
      at : (o : Option Endpoint) → endpoint_at id kept ≡ o → TidyAfter (elim o [
        | None ↦ raises (if nat_lt id kept.opened then is_closed else no_endpoint) kept
        | Some endpoint ↦ next_ id endpoint p kept
      ])
      at None e = raises_tidy (if nat_lt id kept.opened then is_closed else no_endpoint)
      at (Some endpoint) e = comes id endpoint e

  served_tidy : (wanted : Wanted) → TidyAfter (served wanted p kept)
  served_tidy (Open port) = open_tidy port
  served_tidy (SendTo endpoint port bytes) = on_tidy (send port bytes) (send_tidy port bytes) endpoint
  served_tidy (Receive endpoint) = on_tidy receive receive_tidy endpoint
  served_tidy (Close endpoint) = on_tidy close close_tidy endpoint

  pub asked_tidy : (code : ℤ) (o : Option (Option Wanted)) → TidyAfter (asked_for code o p kept)
  asked_tidy code None = tidy
  asked_tidy code (Some None) = tidy
  asked_tidy code (Some (Some wanted)) = at (can_draw dgram_part kept.drawn 1)
    where
      at : (b : Bool) → TidyAfter (if b then served wanted p kept else refuses out_of_range kept)
      at true = served_tidy wanted
      at false = tidy

  pub woken_tidy : (o : Option Waiting) (key place : ℕ) (input : Input) → TidyAfter (woken o key place input p kept)
  woken_tidy None key place input = tidy
  woken_tidy (Some Opens) key place input = opened_tidy place input
  woken_tidy (Some (Offers id it)) key place input = offered_tidy key place id it input
  woken_tidy (Some (Sends id it on)) key place input = sends_tidy key place id it input
  woken_tidy (Some (Receives id on)) key place input = receives_tidy key place id input
  woken_tidy (Some Closes) key place input = tidy_over kept tidy place

  -- ---- what the outside tells
  room_tidy : (o : Option ℕ) → IsTidy (has_room o kept).state
  room_tidy None = tidy
  room_tidy (Some id) = at (endpoint_at id kept)
    where
      at : (o : Option Endpoint) → IsTidy (ExtraCall.state (elim o [
        | None ↦ record { state = kept; steps = [] }
        | Some endpoint ↦ record { state = kept; steps = wakes_first kept endpoint.senders }
      ]))
      at None = tidy
      at (Some endpoint) = tidy

  came_tidy : (o : Option Came) → IsTidy (came o kept).state
  came_tidy None = tidy
  came_tidy (Some it) = at (endpoint_at it.endpoint kept) refl
    where
      at : (o : Option Endpoint) → endpoint_at it.endpoint kept ≡ o → IsTidy (ExtraCall.state (elim o [
        | None ↦ record { state = kept; steps = [] }
        | Some endpoint ↦ record {
          state = set_endpoint it.endpoint (record endpoint { held = hold it.datagram endpoint.held }) kept;
          steps = wakes_receiver kept endpoint.receiver;
        }
      ]))
      at None e = tidy
      at (Some endpoint) e = tidy_set kept tidy it.endpoint (record endpoint { held = hold it.datagram endpoint.held }) (lined_at kept tidy it.endpoint endpoint e)

  pub told_tidy : (code : ℤ) (bytes : List ℕ) → IsTidy (told code bytes kept).state
  told_tidy (negsuc before) bytes = tidy
  told_tidy (pos code) bytes = at (code == 401) (code == 402)
    where
      at : (room comes : Bool) → IsTidy (ExtraCall.state
          (if room then has_room (number_of bytes) kept else (if comes then came (came_in bytes) kept else stays kept)))
      at true comes = room_tidy (number_of bytes)
      at false true = came_tidy (came_in bytes)
      at false false = tidy

pub tidy_first : IsTidy none_opened
tidy_first = record { places = tt; numbers = tt; lines = tt }
