-- Whatever happens, what was sent is in order of asking, whole and once.
use Rattle.std.proofs.Common.{◌≡◌, ℕ, ℤ, pos, negsuc, ◌+◌, ◌<◌, Bool, true, false, cond, List, [], ◌∷◌, ◌++◌, Option, Some, None, length}
use Rattle.std.proofs.Common.{refl, sym, ap, subst, ◌∙◌, arith}
use Rattle.std.specs.Prelude.{◌==◌, ◌&&◌, ◌||◌, codes, nat_le, nat_lt, not, if◌then◌else◌}
use Rattle.std.specs.Fmt.{decimal}
use Rattle.std.specs.List.{AllByRecursion as Each}
use Rattle.std.specs.Map.{remove_entry, set_value}
use Rattle.std.proofs.lemmas.Bool.{eq-eqb, ne_eqb}
use Rattle.model_value.specs.Input.{Input}
use Rattle.model_value.specs.Number.{number_of}
use Rattle.model_value.specs.Value.{Exc, Int, Nothing, Value}
use Rattle.model_value.specs.declared.input.Input.TheVariants.{Send, Throw}
use Rattle.model_loop.specs.Futures.{next_future}
use Rattle.model_loop.specs.Parts.{Parts}
use Rattle.model_machine.specs.Extra as extra
use Rattle.model_machine.specs.Extra.{ExtraAnswer, ExtraCall, ExtraSaid, MakesPlain}
use Rattle.model_reach.specs.Part.{can_draw, place_of, refuses, stays}
use Rattle.model_says.specs.Operations.{out_of_range}
use Rattle.model_sync.specs.Synced.{is_place, without}
use Rattle.model_dgram.specs.Texts.{Came, Datagram, came_in, most_sent, offer_text, port_of}
use Rattle.model_dgram.specs.Endpoints as endpoints
use Rattle.model_dgram.specs.Endpoints.{Endpoint, Endpoints, Waiting, answers, dgram_part, endpoint_at, fresh, is_closed, next_key, no_endpoint, none_opened}
use Rattle.model_dgram.specs.Endpoints.{on_endpoint, raises, says, set_endpoint, wait_again, wait_last, wait_over, waiting_at, wakes_at, wakes_first, wakes_receiver}
use Rattle.model_dgram.specs.Opening.{close, is_next, no_port, open_on, opened, other_answer}
use Rattle.model_dgram.specs.Sending.{asks_again, has_room, is_answer, leaves, offer, offered, send, send_failed, sends_again, stand_last, stands_first, too_long}
use Rattle.model_dgram.specs.Receiving.{came, gives_up, hold, receive, received, receives_again, told_as, waited_for, waits_for}
use Rattle.model_dgram.specs.Serving.{Close, Open, Receive, SendTo, Wanted, asked_for, served, told, wanted_of, woken}
use Rattle.law_jobs.proofs.Entries.{at, last_here, removed_found, removed_here, set_here}
use Rattle.law_datagrams.specs.Notes.{AreBorneOut, IsBorneOut, IsPartOf, Note, is_answered_in, is_any, is_offered_in, is_sent_in, sent_on, was_answered, was_offered, was_sent}
use Rattle.law_datagrams.specs.Notes.{wanted_on}
use Rattle.law_datagrams.specs.Notes as said
use Rattle.law_datagrams.specs.Tries.{Asks, GoesOn, HasNews, Try, asked_note, came_note, gone_note, line_note, news_note, noted, now_of}
use Rattle.law_datagrams.specs.Tries.{wanted_note, woken_note}
use Rattle.law_datagrams.proofs.Noting.{any_last, borne_last}
use Rattle.law_datagrams.proofs.Parts.{appended, fewer, no_more, within}
use Rattle.law_datagrams.proofs.Sends.{IsOffered, IsStill, KeepsSends, StandsBy, any_still, below_at, closes_one, draws, head_of, line_left, line_of, noted_still}
use Rattle.law_datagrams.proofs.Sends.{nothing_sent, offers_now, opens_one, set_still, stands_now, waits_again, waits_in_line, waits_last, waits_over}
use Rattle.law_datagrams.proofs.Sends.{was_line, was_sent_now, without_part}

pub record Keeps (before : List Note) (kept : Endpoints) : Type 0 where
  pub sends : KeepsSends before kept
  pub borne_out : AreBorneOut [] before
  pub alike : (request : ℕ) → was_sent request before ≡ was_answered request before

append_one : {A : Type 0} (before : List A) (x : A) (rest : List A) → before ++ x ∷ rest ≡ (before ++ x ∷ []) ++ rest
append_one [] x rest = refl
append_one (y ∷ before) x rest = ap (λ xs. y ∷ xs) (append_one before x rest)

or_true : (b : Bool) → (b || true) ≡ true
or_true true = refl
or_true false = refl

or_false : (b : Bool) → (b || false) ≡ b
or_false true = refl
or_false false = refl

-- ---- one note, that is of no line
pub noted_one : (before : List Note) (kept : Endpoints) (note : Note) → Keeps before kept → IsStill note
    → ((request : ℕ) → is_answered_in request note ≡ false) → IsBorneOut before note → Keeps (before ++ note ∷ []) kept
noted_one before kept note k still unanswered borne = record {
  sends = noted_still before kept k.sends note still;
  borne_out = borne_last [] before note k.borne_out borne;
  alike = λ request.
      any_still before note (is_sent_in request) (still.is_sent request) ∙ k.alike request
      ∙ sym (any_still before note (is_answered_in request) (unanswered request));
}

-- of these
still_gives : (id : ℕ) (value : Value) → IsStill (said.Gives id value)
still_gives id value = record { wanted = λ other. refl; sent = λ other. refl; wants = λ request. refl; is_sent = λ request. refl }

still_comes : (id : ℕ) (it : Datagram) → IsStill (said.Comes id it)
still_comes id it = record { wanted = λ other. refl; sent = λ other. refl; wants = λ request. refl; is_sent = λ request. refl }

still_raises : (request : ℕ) (exception : Exc) → IsStill (said.Raises request exception)
still_raises request exception = record { wanted = λ other. refl; sent = λ other. refl; wants = λ other. refl; is_sent = λ other. refl }

still_answers : (request : ℕ) (value : Value) → IsStill (said.Answers request value)
still_answers request value = record { wanted = λ other. refl; sent = λ other. refl; wants = λ other. refl; is_sent = λ other. refl }

-- one that waits last, as another
set_last : (n : ℕ) (es : List (ℕ × Waiting)) (a b : Waiting) → at n es ≡ None
    → set_value (is_place n) (es ++ (n, a) ∷ []) b ≡ es ++ (n, b) ∷ []
set_last n [] a b e = ap (λ c. cond c ((n, b) ∷ []) ((n, a) ∷ [])) (eq-eqb n n refl)
set_last n (x ∷ es) a b e = of (λ f. set_last n es a b f) (x.0 == n) refl e
  where
    of : (at n es ≡ None → set_value (is_place n) (es ++ (n, a) ∷ []) b ≡ es ++ (n, b) ∷ []) → (c : Bool) → (x.0 == n) ≡ c
        → cond c (Some x.1) (at n es) ≡ None
        → cond (x.0 == n) ((x.0, b) ∷ (es ++ (n, a) ∷ [])) (x ∷ set_value (is_place n) (es ++ (n, a) ∷ []) b) ≡ x ∷ (es ++ (n, b) ∷ [])
    of rest true is f = let no : Some x.1 ≡ None = f in absurd (cc)
    of rest false is f =
        ap (λ c. cond c ((x.0, b) ∷ (es ++ (n, a) ∷ [])) (x ∷ set_value (is_place n) (es ++ (n, a) ∷ []) b)) is ∙ ap (λ ys. x ∷ ys) (rest f)

past_none : (n : ℕ) (es : List (ℕ × Waiting)) → Each (λ (entry : ℕ × Waiting). entry.0 < n) es → at n es ≡ None
past_none n [] below = refl
past_none n (e ∷ es) below =
    ap (λ b. cond b (Some e.1) (at n es)) (ne_eqb e.0 n (λ same. let l = below.0 in absurd (omega (arith, same, l)))) ∙ past_none n es below.1

module _ (before : List Note) (kept : Endpoints) (k : Keeps before kept) where
  abbrev AskedSo : Wanted → ExtraSaid Endpoints → Type 0
  AskedSo it it_said = Keeps (before ++ wanted_note it it_said.answer kept.drawn) it_said.call.state

  -- what is kept changes, and nothing is noted
  so_now : (now : Endpoints) → KeepsSends before now → Keeps before now
  so_now now h = record { sends = h; borne_out = k.borne_out; alike = k.alike }

  plainly : (now : Endpoints) → KeepsSends before now → Keeps (before ++ []) now
  plainly now h = subst (λ ns. Keeps ns now) (sym (no_more before)) (so_now now h)

  drew : Keeps (before ++ []) (endpoints.draw kept)
  drew = plainly (endpoints.draw kept) (draws before kept k.sends)

  -- ---- as it is asked
  open_so : (port : ℤ) → AskedSo (Open port) (open_on port kept)
  open_so port = by (port_of port)
    where
      by : (o : Option ℕ) → AskedSo (Open port) (elim o [
        | None ↦ raises no_port kept
        | Some port ↦ says (wait_last endpoints.Opens kept) [] (extra.Asks (pos 400) (decimal port) (next_key kept))
      ])
      by None = drew
      by (Some port) = plainly (wait_last endpoints.Opens kept) (waits_last before kept k.sends endpoints.Opens tt)

  close_so : (id : ℕ) (endpoint : Endpoint) (p : Parts) → Keeps (before ++ []) (close id endpoint p kept).call.state
  close_so id endpoint p =
      plainly (close id endpoint p kept).call.state
      (waits_last before (record kept { endpoints = remove_entry (is_place id) kept.endpoints }) (closes_one before kept k.sends id) endpoints.Closes tt)

  -- it stands in line
  module _ (id : ℕ) (endpoint : Endpoint) (it : Datagram) (is : endpoint_at id kept ≡ Some endpoint) where
    abbrev wants : Note
    wants = said.Wants kept.drawn id it

    abbrev lined : Endpoints
    lined = set_endpoint id (stand_last kept.drawn endpoint) kept

    stood : (on : ℕ) → Keeps (before ++ wants ∷ []) (wait_last (endpoints.Sends id it on) lined)
    stood on = record {
      sends = stands_now before kept k.sends id endpoint it on is;
      borne_out = borne_last [] before wants k.borne_out (k.sends.later kept.drawn (omega arith)).0;
      alike = λ request.
          any_still before wants (is_sent_in request) refl ∙ k.alike request ∙ sym (any_still before wants (is_answered_in request) refl);
    }

    -- and the outside is asked, where nobody stood there
    asked_first : endpoint.senders ≡ [] → Keeps (before ++ wants ∷ said.Offers kept.drawn (offer_text id it) ∷ []) (wait_last (endpoints.Offers id it) lined)
    asked_first none =
        subst (λ ns. Keeps ns (wait_last (endpoints.Offers id it) lined)) (sym (append_one before wants (said.Offers kept.drawn (offer_text id it) ∷ [])))
        (subst (λ ws. Keeps ((before ++ wants ∷ []) ++ said.Offers kept.drawn (offer_text id it) ∷ [])
        (record { drawn = kept.drawn + 1; waiting = ws; opened = kept.opened; endpoints = lined.endpoints }))
        (set_last kept.drawn kept.waiting (endpoints.Sends id it 0) (endpoints.Offers id it) undrawn) offers)
      where
        undrawn : at kept.drawn kept.waiting ≡ None
        undrawn = past_none kept.drawn kept.waiting k.sends.places

        first : Keeps (before ++ wants ∷ []) (wait_last (endpoints.Sends id it 0) lined)
        first = stood 0

        waits : at kept.drawn (kept.waiting ++ (kept.drawn, endpoints.Sends id it 0) ∷ []) ≡ Some (endpoints.Sends id it 0)
        waits = last_here kept.drawn kept.waiting (endpoints.Sends id it 0) undrawn

        by : StandsBy (before ++ wants ∷ []) (wait_last (endpoints.Sends id it 0) lined) kept.drawn (endpoints.Sends id it 0)
        by = first.sends.standing kept.drawn (endpoints.Sends id it 0) waits

        offers : Keeps ((before ++ wants ∷ []) ++ said.Offers kept.drawn (offer_text id it) ∷ [])
            (wait_again kept.drawn (endpoints.Offers id it) (wait_last (endpoints.Sends id it 0) lined))
        offers = record {
          sends =
              offers_now (before ++ wants ∷ []) (wait_last (endpoints.Sends id it 0) lined) first.sends kept.drawn id it 0 (stand_last kept.drawn endpoint)
              (offer_text id it) waits (set_here id kept.endpoints endpoint (stand_last kept.drawn endpoint) is)
              (ap (λ senders. stands_first kept.drawn (senders ++ kept.drawn ∷ [])) none ∙ eq-eqb kept.drawn kept.drawn refl);
          borne_out =
              borne_last [] (before ++ wants ∷ []) (said.Offers kept.drawn (offer_text id it)) first.borne_out
              (record { endpoint = id; it = it }, (by.0, refl, by.1));
          alike = λ request.
              any_still (before ++ wants ∷ []) (said.Offers kept.drawn (offer_text id it)) (is_sent_in request) refl ∙ first.alike request
              ∙ sym (any_still (before ++ wants ∷ []) (said.Offers kept.drawn (offer_text id it)) (is_answered_in request) refl);
        }

  send_so : (id port : ℕ) (bytes : List ℕ) (p : Parts) → AskedSo (SendTo (pos id) (pos port) bytes) (on_endpoint (send (pos port) bytes) (pos id) p kept)
  send_so id port bytes p = by (endpoint_at id kept) refl
    where
      offer_so : (endpoint : Endpoint) → endpoint_at id kept ≡ Some endpoint → (byte : ℕ) (more senders : List ℕ) → endpoint.senders ≡ senders
          → (let it : Datagram = record { port = port; bytes = byte ∷ more } in
          let it_said : ExtraSaid Endpoints = elim senders [
            | [] ↦ says (wait_last (endpoints.Offers id it) (set_endpoint id (stand_last kept.drawn endpoint) kept)) []
                (extra.Asks (pos 401) (offer_text id it) (next_key kept))
            | first ∷ others ↦ says (wait_last (endpoints.Sends id it (next_future p)) (set_endpoint id (stand_last kept.drawn endpoint) kept)) (MakesPlain ∷ [])
                (extra.Waits (next_future p) (next_key kept))
          ] in Keeps (before ++ line_note id port (byte ∷ more) it_said.answer kept.drawn) it_said.call.state)
      offer_so endpoint is byte more [] none = asked_first id endpoint (record { port = port; bytes = byte ∷ more }) is none
      offer_so endpoint is byte more (first ∷ others) some = stood id endpoint (record { port = port; bytes = byte ∷ more }) is (next_future p)

      to : (endpoint : Endpoint) → endpoint_at id kept ≡ Some endpoint → (bytes : List ℕ)
          → (let it_said : ExtraSaid Endpoints = elim bytes [
            | [] ↦ answers Nothing kept
            | byte ∷ more ↦ offer (record { port = port; bytes = byte ∷ more }) id endpoint p kept
          ] in Keeps (before ++ line_note id port bytes it_said.answer kept.drawn) it_said.call.state)
      to endpoint is [] = drew
      to endpoint is (byte ∷ more) = offer_so endpoint is byte more endpoint.senders refl

      short : (endpoint : Endpoint) → endpoint_at id kept ≡ Some endpoint → (b : Bool)
          → AskedSo (SendTo (pos id) (pos port) bytes) (if b then raises too_long kept else elim bytes [
            | [] ↦ answers Nothing kept
            | byte ∷ more ↦ offer (record { port = port; bytes = byte ∷ more }) id endpoint p kept
          ])
      short endpoint is true = drew
      short endpoint is false = to endpoint is bytes

      port_so : (endpoint : Endpoint) → endpoint_at id kept ≡ Some endpoint → (b : Bool)
          → AskedSo (SendTo (pos id) (pos port) bytes) (elim (if b then Some port else None) [
            | None ↦ raises no_port kept
            | Some port ↦ if nat_lt most_sent (length bytes) then raises too_long kept else elim bytes [
              | [] ↦ answers Nothing kept
              | byte ∷ more ↦ offer (record { port = port; bytes = byte ∷ more }) id endpoint p kept
            ]
          ])
      port_so endpoint is true = short endpoint is (nat_lt most_sent (length bytes))
      port_so endpoint is false = drew

      by : (o : Option Endpoint) → endpoint_at id kept ≡ o → AskedSo (SendTo (pos id) (pos port) bytes) (elim o [
        | None ↦ raises (if nat_lt id kept.opened then is_closed else no_endpoint) kept
        | Some endpoint ↦ send (pos port) bytes id endpoint p kept
      ])
      by None e = drew
      by (Some endpoint) e = port_so endpoint e (nat_le 1 port && nat_le port 65535)

  -- on an endpoint by its number, where nothing is noted
  on_so : (next : ℕ → Endpoint → Parts → Endpoints → ExtraSaid Endpoints) (p : Parts)
      → ((id : ℕ) (endpoint : Endpoint) → endpoint_at id kept ≡ Some endpoint → Keeps (before ++ []) (next id endpoint p kept).call.state) → (id : ℤ)
      → Keeps (before ++ []) (on_endpoint next id p kept).call.state
  on_so next p so (negsuc past) = drew
  on_so next p so (pos id) = by (endpoint_at id kept) refl
    where
      by : (o : Option Endpoint) → endpoint_at id kept ≡ o → Keeps (before ++ []) (ExtraSaid.call (elim o [
        | None ↦ raises (if nat_lt id kept.opened then is_closed else no_endpoint) kept
        | Some endpoint ↦ next id endpoint p kept
      ])).state
      by None e = drew
      by (Some endpoint) e = so id endpoint e

  -- a receive gives
  gave : (now : Endpoints) (id : ℕ) (value : Value) → KeepsSends before now → Keeps (before ++ said.Gives id value ∷ []) now
  gave now id value h = noted_one before now (said.Gives id value) (so_now now h) (still_gives id value) (λ request. refl) tt

  receive_so : (id : ℕ) (p : Parts) → AskedSo (Receive (pos id)) (on_endpoint receive (pos id) p kept)
  receive_so id p = by (endpoint_at id kept) refl
    where
      wait : (endpoint : Endpoint) → endpoint_at id kept ≡ Some endpoint → (o : Option ℕ) → AskedSo (Receive (pos id)) (elim o [
        | Some other ↦ raises waited_for kept
        | None ↦ says (wait_last (endpoints.Receives id (next_future p)) (set_endpoint id (record endpoint { receiver = Some kept.drawn }) kept))
            (MakesPlain ∷ []) (extra.Waits (next_future p) (next_key kept))
      ])
      wait endpoint e (Some other) = drew
      wait endpoint e None =
          plainly _ (waits_last before (set_endpoint id (record endpoint { receiver = Some kept.drawn }) kept)
          (set_still before kept k.sends id endpoint (record endpoint { receiver = Some kept.drawn }) e refl) (endpoints.Receives id (next_future p)) tt)

      of : (endpoint : Endpoint) → endpoint_at id kept ≡ Some endpoint → (held : List Datagram) → AskedSo (Receive (pos id)) (elim held [
        | [] ↦ waits_for id endpoint p kept
        | first ∷ others ↦ answers (told_as first) (set_endpoint id (record endpoint { held = others }) kept)
      ])
      of endpoint e [] = wait endpoint e endpoint.receiver
      of endpoint e (first ∷ others) =
          gave (endpoints.draw (set_endpoint id (record endpoint { held = others }) kept)) id (told_as first)
          (draws before (set_endpoint id (record endpoint { held = others }) kept) (set_still before kept k.sends id endpoint (record endpoint { held = others }) e refl))

      by : (o : Option Endpoint) → endpoint_at id kept ≡ o → AskedSo (Receive (pos id)) (elim o [
        | None ↦ raises (if nat_lt id kept.opened then is_closed else no_endpoint) kept
        | Some endpoint ↦ receive id endpoint p kept
      ])
      by None e = drew
      by (Some endpoint) e = of endpoint e endpoint.held

  -- a send to no port
  portless : (past : ℕ) (bytes : List ℕ) (endpoint : ℤ) (p : Parts) → Keeps (before ++ []) (on_endpoint (send (negsuc past) bytes) endpoint p kept).call.state
  portless past bytes endpoint p = on_so (send (negsuc past) bytes) p (λ id one e. drew) endpoint

  served_so : (it : Wanted) (p : Parts) → AskedSo it (served it p kept)
  served_so (Open port) p = open_so port
  served_so (SendTo (pos id) (pos port) bytes) p = send_so id port bytes p
  served_so (SendTo (pos id) (negsuc past) bytes) p = portless past bytes (pos id) p
  served_so (SendTo (negsuc past) port bytes) p = drew
  served_so (Receive (pos id)) p = receive_so id p
  served_so (Receive (negsuc past)) p = drew
  served_so (Close endpoint) p = on_so close p (λ id one e. close_so id one p) endpoint

  over_so : (it : Wanted) (exception : Exc) → Keeps (before ++ wanted_note it (extra.Raises exception) kept.drawn) kept
  over_so (Open port) exception = plainly kept k.sends
  over_so (SendTo (pos id) (pos port) bytes) exception = plainly kept k.sends
  over_so (SendTo (pos id) (negsuc past) bytes) exception = plainly kept k.sends
  over_so (SendTo (negsuc past) port bytes) exception = plainly kept k.sends
  over_so (Receive (pos id)) exception = plainly kept k.sends
  over_so (Receive (negsuc past)) exception = plainly kept k.sends
  over_so (Close endpoint) exception = plainly kept k.sends

  asked_so : (code : ℤ) (o : Option (Option Wanted)) (p : Parts)
      → Keeps (before ++ asked_note o (asked_for code o p kept).answer kept.drawn) (asked_for code o p kept).call.state
  asked_so code None p = plainly kept k.sends
  asked_so code (Some None) p = plainly kept k.sends
  asked_so code (Some (Some it)) p = by (can_draw dgram_part kept.drawn 1)
    where
      by : (b : Bool) → AskedSo it (if b then served it p kept else refuses out_of_range kept)
      by true = served_so it p
      by false = over_so it out_of_range

  -- ---- as it goes on
  module _ (key place : ℕ) (p : Parts) where
    abbrev GoesSo : Option Waiting → Input → ExtraSaid Endpoints → Type 0
    GoesSo o input it_said = Keeps (before ++ woken_note o place input it_said.answer) it_said.call.state

    overs : KeepsSends before (wait_over place kept)
    overs = waits_over before kept k.sends place

    gone : at place (remove_entry (is_place place) kept.waiting) ≡ None
    gone = removed_here place kept.waiting k.sends.entries

    opened_so : (input : Input) → GoesSo (Some endpoints.Opens) input (opened place input kept)
    opened_so (Throw exception) = plainly (wait_over place kept) overs
    opened_so (Send value) = by (is_next kept value)
      where
        by : (b : Bool) → GoesSo (Some endpoints.Opens) (Send value) (if b then says
            (record (wait_over place kept) { opened = kept.opened + 1; endpoints = kept.endpoints ++ (kept.opened, fresh) ∷ [] }) []
            (extra.Answers (Int (pos kept.opened))) else says (wait_over place kept) [] (extra.Raises other_answer))
        by true = plainly _ (opens_one before (wait_over place kept) overs)
        by false = plainly (wait_over place kept) overs

    -- one leaves its line by an exception
    raised : (now : Endpoints) (exception : Exc) → KeepsSends before now → was_sent place before ≡ false → Keeps (before ++ said.Raises place exception ∷ []) now
    raised now exception h unsent =
        noted_one before now (said.Raises place exception) (so_now now h) (still_raises place exception) (λ request. refl) unsent

    left_so : (id : ℕ) (exception : Exc) → was_sent place before ≡ false
        → Keeps (before ++ gone_note place (leaves place id (extra.Raises exception) kept).answer) (leaves place id (extra.Raises exception) kept).call.state
    left_so id exception unsent = by (endpoint_at id kept) refl
      where
        by : (o : Option Endpoint) → endpoint_at id kept ≡ o → (let it_said : ExtraSaid Endpoints = elim o [
          | None ↦ says (wait_over place kept) [] (extra.Raises exception)
          | Some endpoint ↦ says (set_endpoint id (record endpoint { senders = without place endpoint.senders }) (wait_over place kept))
              (if stands_first place endpoint.senders then wakes_first kept (without place endpoint.senders) else []) (extra.Raises exception)
        ] in Keeps (before ++ gone_note place it_said.answer) it_said.call.state)
        by None e = raised (wait_over place kept) exception overs unsent
        by (Some endpoint) e = raised _ exception (line_left before (wait_over place kept) overs id place endpoint e gone) unsent

    sends_so : (id on : ℕ) (it : Datagram) (input : Input) → at place kept.waiting ≡ Some (endpoints.Sends id it on)
        → GoesSo (Some (endpoints.Sends id it on)) input (sends_again key place id it input p kept)
    sends_so id on it (Throw exception) waits = left_so id exception (k.sends.standing place (endpoints.Sends id it on) waits).1
    sends_so id on it (Send value) waits = by (endpoint_at id kept) refl
      where
        stands : StandsBy before kept place (endpoints.Sends id it on)
        stands = k.sends.standing place (endpoints.Sends id it on) waits

        asks : (endpoint : Endpoint) → endpoint_at id kept ≡ Some endpoint → (b : Bool) → stands_first place endpoint.senders ≡ b
            → GoesSo (Some (endpoints.Sends id it on)) (Send value) (if b
            then says (wait_again place (endpoints.Offers id it) kept) [] (extra.Asks (pos 401) (offer_text id it) key)
            else says (wait_again place (endpoints.Sends id it (next_future p)) kept) (MakesPlain ∷ []) (extra.Waits (next_future p) key))
        asks endpoint e true first = record {
          sends = offers_now before kept k.sends place id it on endpoint (offer_text id it) waits e first;
          borne_out =
              borne_last [] before (said.Offers place (offer_text id it)) k.borne_out (record { endpoint = id; it = it }, (stands.0, refl, stands.1));
          alike = λ request.
              any_still before (said.Offers place (offer_text id it)) (is_sent_in request) refl ∙ k.alike request
              ∙ sym (any_still before (said.Offers place (offer_text id it)) (is_answered_in request) refl);
        }
        asks endpoint e false first =
            plainly (wait_again place (endpoints.Sends id it (next_future p)) kept)
            (waits_in_line before kept k.sends place id it (next_future p) (endpoints.Sends id it on) waits stands.0 stands.1)

        by : (o : Option Endpoint) → endpoint_at id kept ≡ o → GoesSo (Some (endpoints.Sends id it on)) (Send value) (elim o [
          | None ↦ leaves place id (extra.Raises is_closed) kept
          | Some endpoint ↦ asks_again key place id it endpoint p kept
        ])
        by None e = left_so id is_closed stands.1
        by (Some endpoint) e = asks endpoint e (stands_first place endpoint.senders) refl

    -- one was sent
    module _ (id : ℕ) (it : Datagram) (waits : at place kept.waiting ≡ Some (endpoints.Offers id it)) where
      abbrev by_it : IsOffered before kept place id it
      by_it = k.sends.standing place (endpoints.Offers id it) waits

      drawn_before : place < kept.drawn
      drawn_before = below_at kept.drawn place (endpoints.Offers id it) kept.waiting waits k.sends.places

      nobody : (q : ℕ) (jt : Datagram) → at q (remove_entry (is_place place) kept.waiting) ≡ Some (endpoints.Offers id jt) → ⊥
      nobody q jt e =
          let same : place ≡ q =
          k.sends.only place q id it jt waits (removed_found q place kept.waiting (endpoints.Offers id jt) k.sends.entries e) in
          let no : None ≡ Some (endpoints.Offers id jt) = sym gone ∙ ap (λ n. at n (remove_entry (is_place place) kept.waiting)) same ∙ e in absurd (cc)

      abbrev sent : Note
      sent = said.Sent place id

      -- and answers
      answered : (now : Endpoints) → KeepsSends (before ++ sent ∷ []) now → Keeps (before ++ sent ∷ said.Answers place Nothing ∷ []) now
      answered now h =
          subst (λ ns. Keeps ns now) (sym (append_one before sent (said.Answers place Nothing ∷ []))) (record {
            sends = noted_still (before ++ sent ∷ []) now h (said.Answers place Nothing) (still_answers place Nothing);
            borne_out =
                borne_last [] (before ++ sent ∷ []) (said.Answers place Nothing)
                (borne_last [] before sent k.borne_out (it, (by_it.wants, by_it.offered, by_it.unsent)))
                (refl, is_now, any_still before sent (is_answered_in place) refl ∙ sym (k.alike place) ∙ by_it.unsent);
            alike = λ request.
                any_last (is_sent_in request) (before ++ sent ∷ []) (said.Answers place Nothing)
                ∙ or_false (is_any (is_sent_in request) (before ++ sent ∷ []))
                ∙ any_last (is_sent_in request) before sent
                ∙ ap (λ b. b || (place == request)) (k.alike request)
                ∙ sym (any_last (is_answered_in request) (before ++ sent ∷ []) (said.Answers place Nothing)
                ∙ ap (λ b. b || (place == request)) (any_still before sent (is_answered_in request) refl));
          })
        where
          is_now : was_sent place (before ++ sent ∷ []) ≡ true
          is_now = any_last (is_sent_in place) before sent ∙ ap (λ b. is_any (is_sent_in place) before || b) (eq-eqb place place refl) ∙ or_true (is_any (is_sent_in place) before)

      sent_so : Keeps (before ++ (sent ∷ gone_note place (leaves place id (extra.Answers Nothing) kept).answer)) (leaves place id (extra.Answers Nothing) kept).call.state
      sent_so = by (endpoint_at id kept) refl
        where
          -- the line without it is what comes after it
          line_so : (endpoint : Endpoint) → endpoint_at id kept ≡ Some endpoint
              → IsPartOf ((sent_on id before ++ place ∷ []) ++ without place endpoint.senders) (wanted_on id before)
          line_so endpoint e =
              let h = head_of place endpoint.senders (by_it.first endpoint e) in
              within ((sent_on id before ++ place ∷ []) ++ without place endpoint.senders) ((sent_on id before ++ place ∷ []) ++ h.0) (wanted_on id before)
              (fewer (sent_on id before ++ place ∷ []) (without place endpoint.senders) h.0
              (subst (λ line. IsPartOf (without place line) h.0) (sym h.1)
              (subst (λ b. IsPartOf (cond (not b) (place ∷ without place h.0) (without place h.0)) h.0) (sym (eq-eqb place place refl)) (without_part place h.0))))
              (subst (λ xs. IsPartOf xs (wanted_on id before)) (sym (appended (sent_on id before) (place ∷ []) h.0))
              (subst (λ line. IsPartOf (sent_on id before ++ line) (wanted_on id before)) h.1 (was_line before kept k.sends id endpoint e)))

          by : (o : Option Endpoint) → endpoint_at id kept ≡ o → (let it_said : ExtraSaid Endpoints = elim o [
            | None ↦ says (wait_over place kept) [] (extra.Answers Nothing)
            | Some endpoint ↦ says (set_endpoint id (record endpoint { senders = without place endpoint.senders }) (wait_over place kept))
                (if stands_first place endpoint.senders then wakes_first kept (without place endpoint.senders) else []) (extra.Answers Nothing)
          ] in Keeps (before ++ (sent ∷ gone_note place it_said.answer)) it_said.call.state)
          by None e =
              answered (wait_over place kept)
              (was_sent_now before (wait_over place kept) overs place id drawn_before gone nobody
              (subst (λ (o : Option Endpoint). IsPartOf ((sent_on id before ++ place ∷ []) ++ line_of o) (wanted_on id before)) (sym e)
              (subst (λ xs. IsPartOf xs (wanted_on id before)) (sym (no_more (sent_on id before ++ place ∷ []))) by_it.next)))
          by (Some endpoint) e =
              let left : Endpoint = record endpoint { senders = without place endpoint.senders } in
              answered (set_endpoint id left (wait_over place kept))
              (was_sent_now before (set_endpoint id left (wait_over place kept)) (line_left before (wait_over place kept) overs id place endpoint e gone)
              place id drawn_before gone nobody
              (subst (λ (o : Option Endpoint). IsPartOf ((sent_on id before ++ place ∷ []) ++ line_of o) (wanted_on id before))
              (sym (set_here id kept.endpoints endpoint left e)) (line_so endpoint e)))

    offered_so : (id : ℕ) (it : Datagram) (input : Input) → at place kept.waiting ≡ Some (endpoints.Offers id it)
        → GoesSo (Some (endpoints.Offers id it)) input (offered key place id it input p kept)
    offered_so id it (Throw exception) waits = left_so id exception (k.sends.standing place (endpoints.Offers id it) waits).unsent
    offered_so id it (Send value) waits = by (is_answer value (codes "sent")) (is_answer value (codes "again"))
      where
        stands : IsOffered before kept place id it
        stands = k.sends.standing place (endpoints.Offers id it) waits

        by : (was_sent_ again : Bool) → (let it_said : ExtraSaid Endpoints = if was_sent_ then leaves place id (extra.Answers Nothing) kept
            else (if again
            then says (wait_again place (endpoints.Sends id it (next_future p)) kept) (MakesPlain ∷ []) (extra.Waits (next_future p) key)
            else leaves place id (extra.Raises send_failed) kept) in
            Keeps (before ++ ((if was_sent_ then said.Sent place id ∷ [] else []) ++ gone_note place it_said.answer)) it_said.call.state)
        by true again = sent_so id it waits
        by false true =
            plainly (wait_again place (endpoints.Sends id it (next_future p)) kept)
            (waits_in_line before kept k.sends place id it (next_future p) (endpoints.Offers id it) waits stands.wants stands.unsent)
        by false false = left_so id send_failed stands.unsent

    gives_up_so : (id on : ℕ) (input : Input) (exception : Exc) → GoesSo (Some (endpoints.Receives id on)) input (gives_up place id exception kept)
    gives_up_so id on input exception = by (endpoint_at id kept) refl
      where
        by : (o : Option Endpoint) → endpoint_at id kept ≡ o → GoesSo (Some (endpoints.Receives id on)) input (elim o [
          | None ↦ says (wait_over place kept) [] (extra.Raises exception)
          | Some endpoint ↦ says (set_endpoint id (record endpoint { receiver = None }) (wait_over place kept)) [] (extra.Raises exception)
        ])
        by None e = plainly (wait_over place kept) overs
        by (Some endpoint) e = plainly _ (set_still before (wait_over place kept) overs id endpoint (record endpoint { receiver = None }) e refl)

    receives_so : (id on : ℕ) (input : Input) → at place kept.waiting ≡ Some (endpoints.Receives id on)
        → GoesSo (Some (endpoints.Receives id on)) input (receives_again key place id input p kept)
    receives_so id on (Throw exception) waits = gives_up_so id on (Throw exception) exception
    receives_so id on (Send value) waits = by (endpoint_at id kept) refl
      where
        of : (endpoint : Endpoint) → endpoint_at id kept ≡ Some endpoint → (held : List Datagram)
            → GoesSo (Some (endpoints.Receives id on)) (Send value) (elim held [
              | [] ↦ says (wait_again place (endpoints.Receives id (next_future p)) kept) (MakesPlain ∷ []) (extra.Waits (next_future p) key)
              | first ∷ others ↦ says (set_endpoint id (record endpoint { held = others; receiver = None }) (wait_over place kept)) []
                  (extra.Answers (told_as first))
            ])
        of endpoint e [] =
            plainly _ (waits_again before kept k.sends place (endpoints.Receives id on) (endpoints.Receives id (next_future p)) waits tt)
        of endpoint e (first ∷ others) =
            gave (set_endpoint id (record endpoint { held = others; receiver = None }) (wait_over place kept)) id (told_as first)
            (set_still before (wait_over place kept) overs id endpoint (record endpoint { held = others; receiver = None }) e refl)

        by : (o : Option Endpoint) → endpoint_at id kept ≡ o → GoesSo (Some (endpoints.Receives id on)) (Send value) (elim o [
          | None ↦ gives_up place id is_closed kept
          | Some endpoint ↦ received key place id endpoint p kept
        ])
        by None e = gives_up_so id on (Send value) is_closed
        by (Some endpoint) e = of endpoint e endpoint.held

    gone_so : (input : Input) (o : Option Waiting) → at place kept.waiting ≡ o → GoesSo o input (woken o key place input p kept)
    gone_so (Send value) None e = plainly kept k.sends
    gone_so (Throw exception) None e = plainly kept k.sends
    gone_so input (Some endpoints.Opens) e = opened_so input
    gone_so input (Some (endpoints.Offers id it)) e = offered_so id it input e
    gone_so input (Some (endpoints.Sends id it on)) e = sends_so id on it input e
    gone_so input (Some (endpoints.Receives id on)) e = receives_so id on input e
    gone_so input (Some endpoints.Closes) e = plainly (wait_over place kept) overs

  -- ---- news
  room_so : (o : Option ℕ) → Keeps (before ++ []) (has_room o kept).state
  room_so None = plainly kept k.sends
  room_so (Some id) = by (endpoint_at id kept)
    where
      by : (o : Option Endpoint) → Keeps (before ++ []) (ExtraCall.state (elim o [
        | None ↦ stays kept
        | Some endpoint ↦ record { state = kept; steps = wakes_first kept endpoint.senders }
      ]))
      by None = plainly kept k.sends
      by (Some endpoint) = plainly kept k.sends

  came_so : (o : Option Came) → Keeps (before ++ came_note o) (came o kept).state
  came_so None = plainly kept k.sends
  came_so (Some it) = by (endpoint_at it.endpoint kept) refl
    where
      told_of : (now : Endpoints) → KeepsSends before now → Keeps (before ++ said.Comes it.endpoint it.datagram ∷ []) now
      told_of now h = noted_one before now (said.Comes it.endpoint it.datagram) (so_now now h) (still_comes it.endpoint it.datagram) (λ request. refl) tt

      by : (o : Option Endpoint) → endpoint_at it.endpoint kept ≡ o → Keeps (before ++ said.Comes it.endpoint it.datagram ∷ []) (ExtraCall.state (elim o [
        | None ↦ stays kept
        | Some endpoint ↦ record {
          state = set_endpoint it.endpoint (record endpoint { held = hold it.datagram endpoint.held }) kept;
          steps = wakes_receiver kept endpoint.receiver;
        }
      ]))
      by None e = told_of kept k.sends
      by (Some endpoint) e =
          told_of (set_endpoint it.endpoint (record endpoint { held = hold it.datagram endpoint.held }) kept)
          (set_still before kept k.sends it.endpoint endpoint (record endpoint { held = hold it.datagram endpoint.held }) e refl)

  news_so : (code : ℤ) (bytes : List ℕ) → Keeps (before ++ news_note code bytes) (told code bytes kept).state
  news_so (negsuc past) bytes = plainly kept k.sends
  news_so (pos code) bytes = by (code == 401) (code == 402)
    where
      by : (room comes : Bool) → Keeps (before ++ (if room then [] else (if comes then came_note (came_in bytes) else [])))
          (ExtraCall.state (if room then has_room (number_of bytes) kept else (if comes then came (came_in bytes) kept else stays kept)))
      by true comes = room_so (number_of bytes)
      by false true = came_so (came_in bytes)
      by false false = plainly kept k.sends

  pub step_sends : (it : Try) → Keeps (before ++ noted it kept) (now_of it kept)
  step_sends (Asks code arguments p) = asked_so code (wanted_of code arguments) p
  step_sends (GoesOn key input p) =
      let place = place_of dgram_part key in gone_so key place p input (waiting_at place kept) refl
  step_sends (HasNews code bytes) = news_so code bytes

pub nothing_so : Keeps [] none_opened
nothing_so = record { sends = nothing_sent; borne_out = tt; alike = λ request. refl }
