-- What a request comes to: it goes through or asks the outside, and wakes those who wait alone, or its task waits on a new future.
use Rattle.std.proofs.Common.{◌≡◌, ℕ, ℤ, pos, negsuc, ◌+◌, ◌⊎◌, inl, inr, Bool, true, false, List, [], ◌∷◌, ◌++◌, Option, Some, None, length, map, refl}
use Rattle.std.specs.Prelude.{◌==◌, codes, nat_lt, if◌then◌else◌}
use Rattle.std.specs.Fmt.{decimal}
use Rattle.std.specs.List.{AllByRecursion as Each, flat_map}
use Rattle.std.specs.Map.{remove_entry}
use Rattle.model_value.specs.Input.{Input}
use Rattle.model_value.specs.Number.{number_of}
use Rattle.model_value.specs.Value.{Exc, Int, Nothing, Value}
use Rattle.model_value.specs.declared.input.Input.TheVariants.{Send, Throw}
use Rattle.model_value.specs.declared.outcome.Outcome.TheVariants.{Value as Returned}
use Rattle.model_loop.specs.Futures.{next_future}
use Rattle.model_loop.specs.Parts.{Parts}
use Rattle.model_machine.specs.Extra.{Answers, Raises, Waits, Asks, ExtraAnswer, ExtraCall, ExtraSaid, ExtraStep, MakesPlain, Settles}
use Rattle.model_sync.specs.Synced.{is_place, wakes, without}
use Rattle.model_dgram.specs.Texts.{Came, Datagram, came_in, most_sent, offer_text, port_of}
use Rattle.model_dgram.specs.Endpoints.{Closes, Endpoint, Endpoints, Offers, Opens, Receives, Sends, Waiting, answers, dgram_keeps, endpoint_at}
use Rattle.model_dgram.specs.Endpoints.{fresh, futures_of, is_closed, next_key, no_endpoint, on_endpoint, raises, says, set_endpoint, wait_again}
use Rattle.model_dgram.specs.Endpoints.{wait_last, wait_over, waiting_at, wakes_at, wakes_first, wakes_receiver}
use Rattle.model_dgram.specs.Opening.{close, closed, is_next, no_port, open_on, opened, other_answer}
use Rattle.model_dgram.specs.Sending.{asks_again, has_room, is_answer, leaves, offer, offered, send, send_failed, sends_again, stand_last, stands_first, too_long}
use Rattle.model_dgram.specs.Receiving.{came, gives_up, hold, receive, received, receives_again, told_as, waited_for, waits_for}
use Rattle.model_dgram.specs.Serving.{Close, Open, Receive, SendTo, Wanted, served, told}
use Rattle.law_runs.specs.Allowed.{IsAmong}
use Rattle.law_sync.proofs.Lists.{each_append, each_found, each_removed, each_replaced, last_among, replaced_among}
use Rattle.law_dgram.proofs.Holding.{Holds, WaitingHolds, futures_in, holds_on}

-- ---- of the futures that it had, and the values
module _ (O : ℕ → Type 0) (V : Value → Type 0) where
  abbrev pub Wakes : ExtraStep → Type 0
  Wakes (Settles future outcome) = O future × (outcome ≡ Returned Nothing)
  Wakes _ = ⊥

  -- the outside is asked under this key alone, and where that may be
  abbrev pub AnswerHolds : (may : Type 0) (key : ℕ) → ExtraAnswer → Type 0
  AnswerHolds may key (Answers value) = V value
  AnswerHolds may key (Raises exception) = Unit {0}
  AnswerHolds may key (Waits on other) = ⊥
  AnswerHolds may key (Asks code bytes other) = may × (key ≡ other)

  pub record GoesOn (may : Endpoints → Type 0) (drawn key : ℕ) (said : ExtraSaid Endpoints) : Type 0 where
    pub state : Holds O said.call.state.waiting
    pub keys : said.call.state.drawn ≡ drawn
    pub steps : Each Wakes said.call.steps
    pub answer : AnswerHolds (may said.call.state) key said.answer

  -- one of these, or the new one
  abbrev pub OrNext : (next : ℕ) → ℕ → Type 0
  OrNext next id = O id ⊎ (id ≡ next)

  pub record WaitsOn (next drawn key : ℕ) (said : ExtraSaid Endpoints) : Type 0 where
    pub state : Holds (OrNext next) said.call.state.waiting
    pub keys : said.call.state.drawn ≡ drawn
    pub steps : said.call.steps ≡ MakesPlain ∷ []
    pub answer : said.answer ≡ Waits next key
    pub there : IsAmong (dgram_keeps said.call.state).own next

  abbrev pub Comes : (may : Endpoints → Type 0) (next drawn key : ℕ) → ExtraSaid Endpoints → Type 0
  Comes may next drawn key said = GoesOn may drawn key said ⊎ WaitsOn next drawn key said

  -- what the outside tells
  pub record Hears (drawn : ℕ) (call : ExtraCall Endpoints) : Type 0 where
    pub state : Holds O call.state.waiting
    pub keys : call.state.drawn ≡ drawn
    pub steps : Each Wakes call.steps

-- ---- states
module _ (P : ℕ → Type 0) where
  last_holds : (kept : Endpoints) (it : Waiting) → Holds P kept.waiting → Each P (futures_of it) → Holds P (wait_last it kept).waiting
  last_holds kept it h on = each_append (WaitingHolds P) kept.waiting ((kept.drawn, it) ∷ []) h (on, tt)

  again_holds : (kept : Endpoints) (place : ℕ) (it : Waiting) → Holds P kept.waiting → Each P (futures_of it) → Holds P (wait_again place it kept).waiting
  again_holds kept place it h on = each_replaced (WaitingHolds P) (is_place place) kept.waiting it h (λ key. on)

  over_holds : (kept : Endpoints) (place : ℕ) → Holds P kept.waiting → Holds P (wait_over place kept).waiting
  over_holds kept place h = each_removed (WaitingHolds P) (is_place place) kept.waiting h

-- the outside may be asked
abbrev pub May : Endpoints → Type 0
May state = Unit {0}

-- or not
abbrev pub MayNot : Endpoints → Type 0
MayNot state = ⊥

-- ---- each request
module _ (O : ℕ → Type 0) (V : Value → Type 0) (nothing : V Nothing) (int : (n : ℤ) → V (Int n)) (datagram : (it : Datagram) → V (told_as it))
    (p : Parts) (kept : Endpoints) (holds : Holds O kept.waiting) where
  abbrev next : ℕ
  next = next_future p

  abbrev New : ℕ → Type 0
  New = OrNext O V next

  abbrev pub FirstComes : ExtraSaid Endpoints → Type 0
  FirstComes said = Comes O V May next (kept.drawn + 1) (next_key kept) said

  abbrev pub AgainComes : (may : Endpoints → Type 0) (key : ℕ) → ExtraSaid Endpoints → Type 0
  AgainComes may key said = Comes O V may next kept.drawn key said

  older : Holds New kept.waiting
  older = holds_on O New (λ id o. inl o) kept.waiting holds

  raises_comes : (exception : Exc) → FirstComes (raises exception kept)
  raises_comes exception = inl (record { state = holds; keys = refl; steps = tt; answer = tt })

  -- ---- those who are woken
  all_woken : (ids : List ℕ) → Each O ids → Each (Wakes O V) (map wakes ids)
  all_woken [] all = tt
  all_woken (id ∷ ids) all = ((all.0, refl), all_woken ids all.1)

  at_woken : (place : ℕ) → Each (Wakes O V) (wakes_at kept place)
  at_woken place = at (waiting_at place kept) refl
    where
      at : (o : Option Waiting) → waiting_at place kept ≡ o
          → Each (Wakes O V) (elim o [ None ↦ [] | Some it ↦ map wakes (futures_of it) ])
      at None e = tt
      at (Some it) e = all_woken (futures_of it) (each_found (WaitingHolds O) (is_place place) kept.waiting it e holds).1

  first_woken : (places : List ℕ) → Each (Wakes O V) (wakes_first kept places)
  first_woken [] = tt
  first_woken (place ∷ places) = at_woken place

  receiver_woken : (receiver : Option ℕ) → Each (Wakes O V) (wakes_receiver kept receiver)
  receiver_woken None = tt
  receiver_woken (Some place) = at_woken place

  each_woken : (places : List ℕ) → Each (Wakes O V) (flat_map (wakes_at kept) places)
  each_woken [] = tt
  each_woken (place ∷ places) =
      each_append (Wakes O V) (wakes_at kept place) (flat_map (wakes_at kept) places) (at_woken place) (each_woken places)

  -- ---- open and close
  open_comes : (port : ℤ) → FirstComes (open_on port kept)
  open_comes port = at (port_of port)
    where
      at : (o : Option ℕ) → FirstComes (elim o [
        | None ↦ raises no_port kept
        | Some port ↦ says (wait_last Opens kept) [] (Asks (pos 400) (decimal port) (next_key kept))
      ])
      at None = raises_comes no_port
      at (Some port) = inl (record { state = last_holds O kept Opens holds tt; keys = refl; steps = tt; answer = (tt, refl) })

  pub opened_comes : (key place : ℕ) (input : Input) → AgainComes MayNot key (opened place input kept)
  opened_comes key place (Throw exception) = inl (record { state = over_holds O kept place holds; keys = refl; steps = tt; answer = tt })
  opened_comes key place (Send value) = at (is_next kept value)
    where
      at : (b : Bool) → AgainComes MayNot key (if b then says
          (record (wait_over place kept) { opened = kept.opened + 1; endpoints = kept.endpoints ++ (kept.opened, fresh) ∷ [] }) []
          (Answers (Int (pos kept.opened))) else says (wait_over place kept) [] (Raises other_answer))
      at true = inl (record { state = over_holds O kept place holds; keys = refl; steps = tt; answer = int (pos kept.opened) })
      at false = inl (record { state = over_holds O kept place holds; keys = refl; steps = tt; answer = tt })

  close_comes : (id : ℕ) (endpoint : Endpoint) → FirstComes (close id endpoint p kept)
  close_comes id endpoint = inl (record {
    state = last_holds O (record kept { endpoints = remove_entry (is_place id) kept.endpoints }) Closes holds tt;
    keys = refl;
    steps =
        each_append (Wakes O V) (flat_map (wakes_at kept) endpoint.senders) (wakes_receiver kept endpoint.receiver) (each_woken endpoint.senders)
        (receiver_woken endpoint.receiver);
    answer = (tt, refl);
  })

  pub closed_comes : (key place : ℕ) (input : Input) → AgainComes MayNot key (closed place input kept)
  closed_comes key place input = inl (record { state = over_holds O kept place holds; keys = refl; steps = tt; answer = nothing })

  -- ---- send
  offer_comes : (it : Datagram) (id : ℕ) (endpoint : Endpoint) → FirstComes (offer it id endpoint p kept)
  offer_comes it id endpoint = at endpoint.senders
    where
      lined : Endpoints
      lined = set_endpoint id (stand_last kept.drawn endpoint) kept

      at : (senders : List ℕ) → FirstComes (elim senders [
        | [] ↦ says (wait_last (Offers id it) (set_endpoint id (stand_last kept.drawn endpoint) kept)) []
            (Asks (pos 401) (offer_text id it) (next_key kept))
        | first ∷ others ↦ says (wait_last (Sends id it (next_future p)) (set_endpoint id (stand_last kept.drawn endpoint) kept)) (MakesPlain ∷ [])
            (Waits (next_future p) (next_key kept))
      ])
      at [] = inl (record { state = last_holds O kept (Offers id it) holds tt; keys = refl; steps = tt; answer = (tt, refl) })
      at (first ∷ others) = inr (record {
        state = last_holds New kept (Sends id it next) older (inr refl, tt);
        keys = refl;
        steps = refl;
        answer = refl;
        there = last_among futures_in kept.waiting (kept.drawn, Sends id it next) next (0, refl);
      })

  send_comes : (port : ℤ) (bytes : List ℕ) (id : ℕ) (endpoint : Endpoint) → FirstComes (send port bytes id endpoint p kept)
  send_comes port bytes id endpoint = at (port_of port)
    where
      to : (port : ℕ) (bytes : List ℕ) → FirstComes (elim bytes [
        | [] ↦ answers Nothing kept
        | byte ∷ more ↦ offer (record { port = port; bytes = byte ∷ more }) id endpoint p kept
      ])
      to port [] = inl (record { state = holds; keys = refl; steps = tt; answer = nothing })
      to port (byte ∷ more) = offer_comes (record { port = port; bytes = byte ∷ more }) id endpoint

      short : (port : ℕ) (b : Bool) → FirstComes (if b then raises too_long kept else elim bytes [
        | [] ↦ answers Nothing kept
        | byte ∷ more ↦ offer (record { port = port; bytes = byte ∷ more }) id endpoint p kept
      ])
      short port true = raises_comes too_long
      short port false = to port bytes

      at : (o : Option ℕ) → FirstComes (elim o [
        | None ↦ raises no_port kept
        | Some port ↦ if nat_lt most_sent (length bytes) then raises too_long kept else elim bytes [
          | [] ↦ answers Nothing kept
          | byte ∷ more ↦ offer (record { port = port; bytes = byte ∷ more }) id endpoint p kept
        ]
      ])
      at None = raises_comes no_port
      at (Some port) = short port (nat_lt most_sent (length bytes))

  -- whatever the answer is
  leaves_comes : (may : Endpoints → Type 0) (key place id : ℕ) (answer : ExtraAnswer) → ((may : Type 0) → AnswerHolds O V may key answer)
      → AgainComes may key (leaves place id answer kept)
  leaves_comes may key place id answer ok = at (endpoint_at id kept)
    where
      woken_if : (b : Bool) (senders : List ℕ) → Each (Wakes O V) (if b then wakes_first kept senders else [])
      woken_if true senders = first_woken senders
      woken_if false senders = tt

      at : (o : Option Endpoint) → AgainComes may key (elim o [
        | None ↦ says (wait_over place kept) [] answer
        | Some endpoint ↦ says (set_endpoint id (record endpoint { senders = without place endpoint.senders }) (wait_over place kept))
            (if stands_first place endpoint.senders then wakes_first kept (without place endpoint.senders) else []) answer
      ])
      at None = inl (record { state = over_holds O kept place holds; keys = refl; steps = tt; answer = ok (may (wait_over place kept)) })
      at (Some endpoint) = inl (record {
        state = over_holds O kept place holds;
        keys = refl;
        steps = woken_if (stands_first place endpoint.senders) (without place endpoint.senders);
        answer = ok (may (set_endpoint id (record endpoint { senders = without place endpoint.senders }) (wait_over place kept)));
      })

  asks_comes : (may : Endpoints → Type 0) (key place id : ℕ) (it : Datagram) (endpoint : Endpoint) → may (wait_again place (Offers id it) kept)
      → (old : Waiting) → waiting_at place kept ≡ Some old → AgainComes may key (asks_again key place id it endpoint p kept)
  asks_comes may key place id it endpoint ok old found = at (stands_first place endpoint.senders)
    where
      at : (b : Bool) → AgainComes may key (if b then says (wait_again place (Offers id it) kept) [] (Asks (pos 401) (offer_text id it) key)
          else says (wait_again place (Sends id it (next_future p)) kept) (MakesPlain ∷ []) (Waits (next_future p) key))
      at true = inl (record { state = again_holds O kept place (Offers id it) holds tt; keys = refl; steps = tt; answer = (ok, refl) })
      at false = inr (record {
        state = again_holds New kept place (Sends id it next) older (inr refl, tt);
        keys = refl;
        steps = refl;
        answer = refl;
        there = replaced_among futures_in (is_place place) kept.waiting old (Sends id it next) next found (λ key. (0, refl));
      })

  pub sends_comes : (may : Endpoints → Type 0) (key place id : ℕ) (it : Datagram) (input : Input) → may (wait_again place (Offers id it) kept)
      → (old : Waiting) → waiting_at place kept ≡ Some old → AgainComes may key (sends_again key place id it input p kept)
  sends_comes may key place id it (Throw exception) ok old found = leaves_comes may key place id (Raises exception) (λ m. tt)
  sends_comes may key place id it (Send value) ok old found = at (endpoint_at id kept)
    where
      at : (o : Option Endpoint) → AgainComes may key (elim o [
        | None ↦ leaves place id (Raises is_closed) kept
        | Some endpoint ↦ asks_again key place id it endpoint p kept
      ])
      at None = leaves_comes may key place id (Raises is_closed) (λ m. tt)
      at (Some endpoint) = asks_comes may key place id it endpoint ok old found

  pub offered_comes : (key place id : ℕ) (it : Datagram) (input : Input) (old : Waiting) → waiting_at place kept ≡ Some old
      → AgainComes MayNot key (offered key place id it input p kept)
  offered_comes key place id it (Throw exception) old found = leaves_comes MayNot key place id (Raises exception) (λ m. tt)
  offered_comes key place id it (Send value) old found = at (is_answer value (codes "sent")) (is_answer value (codes "again"))
    where
      at : (sent again : Bool) → AgainComes MayNot key (if sent then leaves place id (Answers Nothing) kept
          else (if again
          then says (wait_again place (Sends id it (next_future p)) kept) (MakesPlain ∷ []) (Waits (next_future p) key)
          else leaves place id (Raises send_failed) kept))
      at true again = leaves_comes MayNot key place id (Answers Nothing) (λ m. nothing)
      at false true = inr (record {
        state = again_holds New kept place (Sends id it next) older (inr refl, tt);
        keys = refl;
        steps = refl;
        answer = refl;
        there = replaced_among futures_in (is_place place) kept.waiting old (Sends id it next) next found (λ key. (0, refl));
      })
      at false false = leaves_comes MayNot key place id (Raises send_failed) (λ m. tt)

  -- ---- receive
  waits_comes : (id : ℕ) (endpoint : Endpoint) → FirstComes (waits_for id endpoint p kept)
  waits_comes id endpoint = at endpoint.receiver
    where
      at : (o : Option ℕ) → FirstComes (elim o [
        | Some other ↦ raises waited_for kept
        | None ↦ says (wait_last (Receives id (next_future p)) (set_endpoint id (record endpoint { receiver = Some kept.drawn }) kept))
            (MakesPlain ∷ []) (Waits (next_future p) (next_key kept))
      ])
      at (Some other) = raises_comes waited_for
      at None = inr (record {
        state = last_holds New kept (Receives id next) older (inr refl, tt);
        keys = refl;
        steps = refl;
        answer = refl;
        there = last_among futures_in kept.waiting (kept.drawn, Receives id next) next (0, refl);
      })

  receive_comes : (id : ℕ) (endpoint : Endpoint) → FirstComes (receive id endpoint p kept)
  receive_comes id endpoint = at endpoint.held
    where
      at : (held : List Datagram) → FirstComes (elim held [
        | [] ↦ waits_for id endpoint p kept
        | first ∷ others ↦ answers (told_as first) (set_endpoint id (record endpoint { held = others }) kept)
      ])
      at [] = waits_comes id endpoint
      at (first ∷ others) = inl (record { state = holds; keys = refl; steps = tt; answer = datagram first })

  gives_up_comes : (key place id : ℕ) (exception : Exc) → AgainComes MayNot key (gives_up place id exception kept)
  gives_up_comes key place id exception = at (endpoint_at id kept)
    where
      at : (o : Option Endpoint) → AgainComes MayNot key (elim o [
        | None ↦ says (wait_over place kept) [] (Raises exception)
        | Some endpoint ↦ says (set_endpoint id (record endpoint { receiver = None }) (wait_over place kept)) [] (Raises exception)
      ])
      at None = inl (record { state = over_holds O kept place holds; keys = refl; steps = tt; answer = tt })
      at (Some endpoint) = inl (record { state = over_holds O kept place holds; keys = refl; steps = tt; answer = tt })

  received_comes : (key place id : ℕ) (endpoint : Endpoint) (old : Waiting) → waiting_at place kept ≡ Some old
      → AgainComes MayNot key (received key place id endpoint p kept)
  received_comes key place id endpoint old found = at endpoint.held
    where
      at : (held : List Datagram) → AgainComes MayNot key (elim held [
        | [] ↦ says (wait_again place (Receives id (next_future p)) kept) (MakesPlain ∷ []) (Waits (next_future p) key)
        | first ∷ others ↦ says (set_endpoint id (record endpoint { held = others; receiver = None }) (wait_over place kept)) []
            (Answers (told_as first))
      ])
      at [] = inr (record {
        state = again_holds New kept place (Receives id next) older (inr refl, tt);
        keys = refl;
        steps = refl;
        answer = refl;
        there = replaced_among futures_in (is_place place) kept.waiting old (Receives id next) next found (λ key. (0, refl));
      })
      at (first ∷ others) = inl (record { state = over_holds O kept place holds; keys = refl; steps = tt; answer = datagram first })

  pub receives_comes : (key place id : ℕ) (input : Input) (old : Waiting) → waiting_at place kept ≡ Some old
      → AgainComes MayNot key (receives_again key place id input p kept)
  receives_comes key place id (Throw exception) old found = gives_up_comes key place id exception
  receives_comes key place id (Send value) old found = at (endpoint_at id kept)
    where
      at : (o : Option Endpoint) → AgainComes MayNot key (elim o [
        | None ↦ gives_up place id is_closed kept
        | Some endpoint ↦ received key place id endpoint p kept
      ])
      at None = gives_up_comes key place id is_closed
      at (Some endpoint) = received_comes key place id endpoint old found

  -- ---- by number
  on_comes : (next_ : ℕ → Endpoint → Parts → Endpoints → ExtraSaid Endpoints)
      → ((id : ℕ) (endpoint : Endpoint) → FirstComes (next_ id endpoint p kept)) → (id : ℤ) → FirstComes (on_endpoint next_ id p kept)
  on_comes next_ comes (negsuc before) = raises_comes no_endpoint
  on_comes next_ comes (pos id) = at (endpoint_at id kept)
    where
      at : (o : Option Endpoint) → FirstComes (elim o [
        | None ↦ raises (if nat_lt id kept.opened then is_closed else no_endpoint) kept
        | Some endpoint ↦ next_ id endpoint p kept
      ])
      at None = raises_comes (if nat_lt id kept.opened then is_closed else no_endpoint)
      at (Some endpoint) = comes id endpoint

  pub served_comes : (wanted : Wanted) → FirstComes (served wanted p kept)
  served_comes (Open port) = open_comes port
  served_comes (SendTo endpoint port bytes) = on_comes (send port bytes) (send_comes port bytes) endpoint
  served_comes (Receive endpoint) = on_comes receive receive_comes endpoint
  served_comes (Close endpoint) = on_comes close close_comes endpoint

  -- ---- what the outside tells
  stays_hears : Hears O V kept.drawn (record { state = kept; steps = [] })
  stays_hears = record { state = holds; keys = refl; steps = tt }

  pub room_hears : (o : Option ℕ) → Hears O V kept.drawn (has_room o kept)
  room_hears None = stays_hears
  room_hears (Some id) = at (endpoint_at id kept)
    where
      at : (o : Option Endpoint) → Hears O V kept.drawn (elim o [
        | None ↦ record { state = kept; steps = [] }
        | Some endpoint ↦ record { state = kept; steps = wakes_first kept endpoint.senders }
      ])
      at None = stays_hears
      at (Some endpoint) = record { state = holds; keys = refl; steps = first_woken endpoint.senders }

  pub came_hears : (o : Option Came) → Hears O V kept.drawn (came o kept)
  came_hears None = stays_hears
  came_hears (Some it) = at (endpoint_at it.endpoint kept)
    where
      at : (o : Option Endpoint) → Hears O V kept.drawn (elim o [
        | None ↦ record { state = kept; steps = [] }
        | Some endpoint ↦ record {
          state = set_endpoint it.endpoint (record endpoint { held = hold it.datagram endpoint.held }) kept;
          steps = wakes_receiver kept endpoint.receiver;
        }
      ])
      at None = stays_hears
      at (Some endpoint) = record { state = holds; keys = refl; steps = receiver_woken endpoint.receiver }

  pub told_hears : (code : ℤ) (bytes : List ℕ) → Hears O V kept.drawn (told code bytes kept)
  told_hears (negsuc before) bytes = stays_hears
  told_hears (pos code) bytes = at (code == 401) (code == 402)
    where
      at : (room comes : Bool) → Hears O V kept.drawn
          (if room then has_room (number_of bytes) kept else (if comes then came (came_in bytes) kept else record { state = kept; steps = [] }))
      at true comes = room_hears (number_of bytes)
      at false true = came_hears (came_in bytes)
      at false false = stays_hears
