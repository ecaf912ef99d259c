-- What requests come to goes by the next future's number alone, of all that the loop's parts tell.
use Rattle.std.proofs.Common.{◌≡◌, ℕ, ℤ, pos, negsuc, List, [], ◌∷◌, Option, Some, None, length, refl, ap}
use Rattle.std.specs.Prelude.{codes, nat_lt, if◌then◌else◌}
use Rattle.model_value.specs.Input.{Input}
use Rattle.model_value.specs.Value.{Nothing}
use Rattle.model_value.specs.declared.input.Input.TheVariants.{Send, Throw}
use Rattle.model_loop.specs.Futures.{next_future}
use Rattle.model_loop.specs.Parts.{Parts}
use Rattle.model_machine.specs.Extra.{Answers, Asks, ExtraSaid, MakesPlain, Raises, Waits}
use Rattle.model_reach.specs.Part.{drawing}
use Rattle.model_dgram.specs.Texts.{Datagram, most_sent, offer_text, port_of}
use Rattle.model_dgram.specs.Endpoints.{Closes, Endpoint, Endpoints, Offers, Opens, Receives, Sends, Waiting, answers, dgram_part, endpoint_at, is_closed}
use Rattle.model_dgram.specs.Endpoints.{next_key, no_endpoint, on_endpoint, raises, says, set_endpoint, wait_again, wait_last, wait_over}
use Rattle.model_dgram.specs.Opening.{close, no_port}
use Rattle.model_dgram.specs.Sending.{is_answer, leaves, offer, offered, send, send_failed, sends_again, stand_last, stands_first, too_long}
use Rattle.model_dgram.specs.Receiving.{gives_up, receive, received, receives_again, told_as, waited_for, waits_for}
use Rattle.model_dgram.specs.Serving.{Close, Open, Receive, SendTo, Wanted, asked_for, served, woken}

module _ (p q : Parts) (next : next_future q ≡ next_future p) (kept : Endpoints) where
  offer_same : (it : Datagram) (id : ℕ) (endpoint : Endpoint) → offer it id endpoint q kept ≡ offer it id endpoint p kept
  offer_same it id endpoint = ap (λ n. at n endpoint.senders) next
    where
      at : ℕ → List ℕ → ExtraSaid Endpoints
      at n senders = elim senders [
        | [] ↦ says (wait_last (Offers id it) (set_endpoint id (stand_last kept.drawn endpoint) kept)) []
            (Asks (pos 401) (offer_text id it) (next_key kept))
        | first ∷ others ↦ says (wait_last (Sends id it n) (set_endpoint id (stand_last kept.drawn endpoint) kept)) (MakesPlain ∷ [])
            (Waits n (next_key kept))
      ]

  send_same : (port : ℤ) (bytes : List ℕ) (id : ℕ) (endpoint : Endpoint) → send port bytes id endpoint q kept ≡ send port bytes id endpoint p kept
  send_same port bytes id endpoint = at (port_of port)
    where
      of : (r : Parts) → ℕ → List ℕ → ExtraSaid Endpoints
      of r port bytes = elim bytes [
        | [] ↦ answers Nothing kept
        | byte ∷ more ↦ offer (record { port = port; bytes = byte ∷ more }) id endpoint r kept
      ]

      to : (port : ℕ) (bytes : List ℕ) → of q port bytes ≡ of p port bytes
      to port [] = refl
      to port (byte ∷ more) = offer_same (record { port = port; bytes = byte ∷ more }) id endpoint

      at : (o : Option ℕ) → ◌≡◌ {A = ExtraSaid Endpoints}
          (elim o [ None ↦ raises no_port kept | Some port ↦ if nat_lt most_sent (length bytes) then raises too_long kept else of q port bytes ])
          (elim o [ None ↦ raises no_port kept | Some port ↦ if nat_lt most_sent (length bytes) then raises too_long kept else of p port bytes ])
      at None = refl
      at (Some port) = ap (λ said. if nat_lt most_sent (length bytes) then raises too_long kept else said) (to port bytes)

  receive_same : (id : ℕ) (endpoint : Endpoint) → receive id endpoint q kept ≡ receive id endpoint p kept
  receive_same id endpoint = at endpoint.held
    where
      wait : ℕ → Option ℕ → ExtraSaid Endpoints
      wait n o = elim o [
        | Some other ↦ raises waited_for kept
        | None ↦ says (wait_last (Receives id n) (set_endpoint id (record endpoint { receiver = Some kept.drawn }) kept)) (MakesPlain ∷ [])
            (Waits n (next_key kept))
      ]

      at : (held : List Datagram) → ◌≡◌ {A = ExtraSaid Endpoints} (elim held [
        | [] ↦ waits_for id endpoint q kept
        | first ∷ others ↦ answers (told_as first) (set_endpoint id (record endpoint { held = others }) kept)
      ]) (elim held [
        | [] ↦ waits_for id endpoint p kept
        | first ∷ others ↦ answers (told_as first) (set_endpoint id (record endpoint { held = others }) kept)
      ])
      at [] = ap (λ n. wait n endpoint.receiver) next
      at (first ∷ others) = refl

  on_same : (next_ : ℕ → Endpoint → Parts → Endpoints → ExtraSaid Endpoints)
      → ((id : ℕ) (endpoint : Endpoint) → next_ id endpoint q kept ≡ next_ id endpoint p kept) → (id : ℤ)
      → on_endpoint next_ id q kept ≡ on_endpoint next_ id p kept
  on_same next_ same (negsuc before) = refl
  on_same next_ same (pos id) = at (endpoint_at id kept)
    where
      at : (o : Option Endpoint) → ◌≡◌ {A = ExtraSaid Endpoints}
          (elim o [ None ↦ raises (if nat_lt id kept.opened then is_closed else no_endpoint) kept | Some endpoint ↦ next_ id endpoint q kept ])
          (elim o [ None ↦ raises (if nat_lt id kept.opened then is_closed else no_endpoint) kept | Some endpoint ↦ next_ id endpoint p kept ])
      at None = refl
      at (Some endpoint) = same id endpoint

  served_same : (wanted : Wanted) → served wanted q kept ≡ served wanted p kept
  served_same (Open port) = refl
  served_same (SendTo endpoint port bytes) = on_same (send port bytes) (send_same port bytes) endpoint
  served_same (Receive endpoint) = on_same receive receive_same endpoint
  served_same (Close endpoint) = on_same close (λ id endpoint. refl) endpoint

  pub asked_same : (code : ℤ) (o : Option (Option Wanted)) → asked_for code o q kept ≡ asked_for code o p kept
  asked_same code None = refl
  asked_same code (Some None) = refl
  asked_same code (Some (Some wanted)) = ap (λ said. drawing dgram_part kept.drawn 1 said kept) (served_same wanted)

  -- ---- as its task goes on
  offered_same : (key place id : ℕ) (it : Datagram) (input : Input) → offered key place id it input q kept ≡ offered key place id it input p kept
  offered_same key place id it (Throw exception) = refl
  offered_same key place id it (Send value) = ap at next
    where
      at : ℕ → ExtraSaid Endpoints
      at n =
          if is_answer value (codes "sent") then leaves place id (Answers Nothing) kept
          else (if is_answer value (codes "again") then says (wait_again place (Sends id it n) kept) (MakesPlain ∷ []) (Waits n key)
          else leaves place id (Raises send_failed) kept)

  sends_same : (key place id : ℕ) (it : Datagram) (input : Input) → sends_again key place id it input q kept ≡ sends_again key place id it input p kept
  sends_same key place id it (Throw exception) = refl
  sends_same key place id it (Send value) = ap (λ n. at n (endpoint_at id kept)) next
    where
      at : ℕ → Option Endpoint → ExtraSaid Endpoints
      at n o = elim o [
        | None ↦ leaves place id (Raises is_closed) kept
        | Some endpoint ↦ if stands_first place endpoint.senders
            then says (wait_again place (Offers id it) kept) [] (Asks (pos 401) (offer_text id it) key)
            else says (wait_again place (Sends id it n) kept) (MakesPlain ∷ []) (Waits n key)
      ]

  receives_same : (key place id : ℕ) (input : Input) → receives_again key place id input q kept ≡ receives_again key place id input p kept
  receives_same key place id (Throw exception) = refl
  receives_same key place id (Send value) = at (endpoint_at id kept)
    where
      of : Endpoint → ℕ → ExtraSaid Endpoints
      of endpoint n = elim endpoint.held [
        | [] ↦ says (wait_again place (Receives id n) kept) (MakesPlain ∷ []) (Waits n key)
        | first ∷ others ↦ says (set_endpoint id (record endpoint { held = others; receiver = None }) (wait_over place kept)) []
            (Answers (told_as first))
      ]

      at : (o : Option Endpoint) → ◌≡◌ {A = ExtraSaid Endpoints}
          (elim o [ None ↦ gives_up place id is_closed kept | Some endpoint ↦ received key place id endpoint q kept ])
          (elim o [ None ↦ gives_up place id is_closed kept | Some endpoint ↦ received key place id endpoint p kept ])
      at None = refl
      at (Some endpoint) = ap (of endpoint) next

  pub woken_same : (o : Option Waiting) (key place : ℕ) (input : Input) → woken o key place input q kept ≡ woken o key place input p kept
  woken_same None key place input = refl
  woken_same (Some Opens) key place input = refl
  woken_same (Some (Offers id it)) key place input = offered_same key place id it input
  woken_same (Some (Sends id it on)) key place input = sends_same key place id it input
  woken_same (Some (Receives id on)) key place input = receives_same key place id input
  woken_same (Some Closes) key place input = refl
