-- What requests come to, path by path.
use Rattle.std.proofs.Common.{◌≡◌, ℕ, pos, Bool, true, false, List, [], ◌∷◌, ◌++◌, Option, Some, None, length, refl, sym, ap, subst, ◌∙◌}
use Rattle.std.specs.Prelude.{Result, Ok, Err, IfOk, OnOk, is_some, codes, if◌then◌else◌}
use Rattle.std.specs.BTreeMap.{is_at}
use Rattle.std.specs.Fmt.{decimal}
use Rattle.std.specs.List.{flat_map}
use Rattle.std.specs.Map.{lookup, remove_entry, set_value}
use Rattle.std.specs.Ordering.{nat_cmp}
use Rattle.std.proofs.lemmas.Bool.{false≢true}
use Rattle.model_value.specs.Number.{number_of}
use Rattle.model_value.specs.Value.{Value, Nothing}
use Rattle.model_value.specs.declared.input.Input.TheVariants.{Send}
use Rattle.model_loop.specs.Futures.{next_future}
use Rattle.model_loop.specs.Parts.{Parts, Plain}
use Rattle.model_machine.specs.Extra as extra
use Rattle.model_machine.specs.Extra.{ExtraAnswer, ExtraCall, ExtraSaid, MakesPlain}
use Rattle.model_sync.specs.Synced.{is_place}
use Rattle.model_dgram.specs.Texts.{Came, Datagram, came_in}
use Rattle.model_dgram.specs.Endpoints.{Closes, Endpoint, Endpoints, Offers, Receives, Sends, Waiting, draw, endpoint_at, is_closed, next_key, raises, says, set_endpoint}
use Rattle.model_dgram.specs.Endpoints.{wait_again, wait_last, wait_over, waiting_at, wakes_at, wakes_first, wakes_receiver}
use Rattle.model_dgram.specs.Opening.{close}
use Rattle.model_dgram.specs.Sending.{asks_again, has_room, is_answer, leaves, offered, send_failed, sends_again}
use Rattle.model_dgram.specs.Receiving.{came, gives_up, hold, received, receives_again, told_as, waited_for, waits_for}
use Rattle.law_dgram.proofs.Falling.{found_replaced}
use Rattle.refine_added.specs.Seen.{made}
use Rattle.aio_task.specs.View.{View, parts}
use Rattle.aio_extra.specs.declared.asked.Asked.{Asked}
use Rattle.aio_extra.specs.declared.asked.Asked.TheVariants.{Answer, Raise, Wait, Outside}
use Rattle.aio_dgram.specs.Keeps.{moved, waits}
use Rattle.aio_dgram.specs.Leaves.{received_by}
use Rattle.aio_dgram.specs.Woken.{CallsSeen, SaysSeen, Sees}
use Rattle.aio_dgram.proofs.Kept.{changed}
use Rattle.aio_dgram.proofs.Places.{found, is_found, remove_at, set_twice}

-- both of what is so where a call went through
pub both : {A E : Type 0} {P R : A → Type 0} {Q : Type 0} → (r : Result A E) → IfOk r P → OnOk r Q → ((x : A) → P x → Q → R x) → IfOk r R
both (Ok x) p q on = on x p q
both (Err e) p q on = tt

some_of : {A : Type 0} → (o : Option A) → is_some o ≡ true → (x : A) × (o ≡ Some x)
some_of None e = absurd (false≢true e)
some_of (Some x) e = (x, refl)

none_of : {A : Type 0} → (o : Option A) → is_some o ≡ false → o ≡ None
none_of None e = refl
none_of (Some x) e = absurd (false≢true (sym e))

-- ---- those who are woken, by the requests that wait alone
same_first : (x : Endpoints) (places : List ℕ) → wakes_first (waits x.waiting) places ≡ wakes_first x places
same_first x [] = refl
same_first x (place ∷ places) = refl

same_receiver : (x : Endpoints) (receiver : Option ℕ) → wakes_receiver (waits x.waiting) receiver ≡ wakes_receiver x receiver
same_receiver x None = refl
same_receiver x (Some place) = refl

-- ---- receive
module _ (x : Endpoints) (v : View) (id : ℕ) (endpoint : Endpoint) (at : endpoint_at id x ≡ Some endpoint) where
  abbrev p : Parts
  p = parts v

  abbrev waits_as : Option ℕ → ExtraSaid Endpoints
  waits_as o = elim o [
    | Some other ↦ raises waited_for x
    | None ↦ says (wait_last (Receives id (next_future p)) (set_endpoint id (record endpoint { receiver = Some x.drawn }) x)) (MakesPlain ∷ [])
        (extra.Waits (next_future p) (next_key x))
  ]

  pub waits_taken : (y : Endpoints) (asked : Asked) → is_some endpoint.receiver ≡ true → y ≡ draw x → asked ≡ Raise waited_for
      → SaysSeen y v v asked (waits_for id endpoint p x)
  waits_taken y asked is e a =
      subst (λ it. SaysSeen y v v it (waits_for id endpoint p x)) (sym a)
      (subst (λ o. SaysSeen y v v (Raise waited_for) (waits_as o)) (sym (some_of endpoint.receiver is).1)
      (record { call = record { kept = e; steps = λ known. refl }; answer = refl }))

  pub waits_on : (y m : Endpoints) (w : View) (on key : ℕ) → is_some endpoint.receiver ≡ false → m ≡ received_by id (Some x.drawn) x
      → y ≡ wait_last (Receives id on) m → on ≡ length v.futures → key ≡ next_key m → w ≡ made Plain v
      → SaysSeen y v w (Wait on key) (waits_for id endpoint p x)
  waits_on y m w on key is before e number k made_ =
      subst (λ o. SaysSeen y v w (Wait on key) (waits_as o)) (sym (none_of endpoint.receiver is)) (record {
        call = record {
          kept = e ∙ ap (λ n. wait_last (Receives id n) m) number ∙ ap (wait_last (Receives id (next_future p))) is_set;
          steps = λ known. (w, made_, refl);
        };
        answer = (number, k ∙ ap next_key is_set);
      })
    where
      is_set : m ≡ set_endpoint id (record endpoint { receiver = Some x.drawn }) x
      is_set =
          before
          ∙ ap (λ (o : Option Endpoint). elim o [ None ↦ x | Some it ↦ set_endpoint id (record it { receiver = Some x.drawn }) x ]) at

  module _ (key place : ℕ) where
    abbrev received_as : List Datagram → ExtraSaid Endpoints
    received_as held = elim held [
      | [] ↦ says (wait_again place (Receives id (next_future p)) x) (MakesPlain ∷ []) (extra.Waits (next_future p) key)
      | first ∷ others ↦ says (set_endpoint id (record endpoint { held = others; receiver = None }) (wait_over place x)) []
          (extra.Answers (told_as first))
    ]

    pub received_first : (y m n : Endpoints) (first : Datagram) (others : List Datagram) (value : Value) → endpoint.held ≡ first ∷ others
        → m ≡ set_endpoint id (record endpoint { held = others }) x → n ≡ received_by id None m → y ≡ wait_over place n → value ≡ told_as first
        → SaysSeen y v v (Answer value) (received key place id endpoint p x)
    received_first y m n first others value held before set e is =
        subst (λ h. SaysSeen y v v (Answer value) (received_as h)) (sym held) (record {
          call = record { kept = e ∙ ap (wait_over place) (set ∙ ap (received_by id None) before ∙ now); steps = λ known. refl };
          answer = is;
        })
      where
        left : Endpoint
        left = record endpoint { held = others }

        now : received_by id None (set_endpoint id left x) ≡ set_endpoint id (record endpoint { held = others; receiver = None }) x
        now =
            ap (λ (o : Option Endpoint). elim o [
              | None ↦ set_endpoint id left x
              | Some it ↦ set_endpoint id (record it { receiver = None }) (set_endpoint id left x)
            ]) (found_replaced (is_place id) x.endpoints endpoint left at)
            ∙ ap (λ es. record x { endpoints = es }) (set_twice (is_place id) x.endpoints left (record left { receiver = None }))

    pub received_waits : (y m : Endpoints) (w : View) (on other : ℕ) → endpoint.held ≡ [] → m ≡ x
        → waiting_at place x ≡ Some (Receives id other)
        → ((it : Waiting) → waiting_at place m ≡ Some it → y ≡ wait_again place (moved on it) m)
        → on ≡ length v.futures → w ≡ made Plain v → SaysSeen y v w (Wait on key) (received key place id endpoint p x)
    received_waits y m w on other held same is after number made_ =
        subst (λ h. SaysSeen y v w (Wait on key) (received_as h)) (sym held) (record {
          call = record {
            kept = after (Receives id other) (ap (waiting_at place) same ∙ is) ∙ ap (λ n. wait_again place (Receives id n) m) number
                ∙ ap (wait_again place (Receives id (next_future p))) same;
            steps = λ known. (w, made_, refl);
          };
          answer = (number, refl);
        })

-- ---- the outside tells
pub room_seen : (x : Endpoints) (v w : View) (bytes : List ℕ) (id : ℕ) (endpoint : Endpoint) → number_of bytes ≡ Some id
    → Some endpoint ≡ lookup (is_at (nat_cmp id)) x.endpoints → Sees (wakes_first (waits x.waiting) endpoint.senders) v w
    → CallsSeen x v w (has_room (number_of bytes) x)
room_seen x v w bytes id endpoint is here steps =
    subst (λ o. CallsSeen x v w (has_room o x)) (sym is)
    (subst (λ o. CallsSeen x v w (at o)) (sym (found x.endpoints id (Some endpoint) here))
    (record { kept = refl; steps = subst (λ s. Sees s v w) (same_first x endpoint.senders) steps }))
  where
    at : Option Endpoint → ExtraCall Endpoints
    at o = elim o [ None ↦ record { state = x; steps = [] } | Some it ↦ record { state = x; steps = wakes_first x it.senders } ]

pub came_seen : (x : Endpoints) (v w : View) (bytes : List ℕ) (it : Came) (es : List (ℕ × Endpoint)) (now new : Endpoint)
    → came_in bytes ≡ Some it → Some now ≡ lookup (is_at (nat_cmp it.endpoint)) x.endpoints
    → es ≡ set_value (is_at (nat_cmp it.endpoint)) x.endpoints new → new ≡ record now { held = hold it.datagram now.held }
    → Sees (wakes_receiver (waits x.waiting) new.receiver) v w → CallsSeen (record x { endpoints = es }) v w (came (came_in bytes) x)
came_seen x v w bytes it es now new is here e after steps =
    subst (λ o. CallsSeen (record x { endpoints = es }) v w (came o x)) (sym is)
    (subst (λ o. CallsSeen (record x { endpoints = es }) v w (at o)) (sym (found x.endpoints it.endpoint (Some now) here))
    (record {
      kept = changed x es it.endpoint new e ∙ ap (λ n. set_endpoint it.endpoint n x) after;
      steps = subst (λ s. Sees s v w) (same_receiver x new.receiver ∙ ap (λ (n : Endpoint). wakes_receiver x n.receiver) after) steps;
    }))
  where
    at : Option Endpoint → ExtraCall Endpoints
    at o = elim o [
      | None ↦ record { state = x; steps = [] }
      | Some one ↦ record { state = set_endpoint it.endpoint (record one { held = hold it.datagram one.held }) x; steps = wakes_receiver x one.receiver }
    ]

-- ---- close
pub close_seen : (x y : Endpoints) (v w : View) (id : ℕ) (es : List (ℕ × Endpoint)) (now : Endpoint) (asked : Asked) (bytes : List ℕ)
    → Some now ≡ lookup (is_at (nat_cmp id)) x.endpoints → es ≡ remove_entry (is_at (nat_cmp id)) x.endpoints
    → Sees (flat_map (wakes_at (waits x.waiting)) now.senders ++ wakes_receiver (waits x.waiting) now.receiver) v w → bytes ≡ decimal id
    → asked ≡ Outside (pos 403) bytes (next_key x) → y ≡ wait_last Closes (record x { endpoints = es }) → (endpoint : Endpoint)
    → endpoint_at id x ≡ Some endpoint → SaysSeen y v w asked (close id endpoint (parts v) x)
close_seen x y v w id es now asked bytes here e steps text a after endpoint at =
    subst (λ it. SaysSeen y v w it (close id endpoint (parts v) x)) (sym (a ∙ ap (λ b. Outside (pos 403) b (next_key x)) text))
    (subst (λ it. SaysSeen y v w (Outside (pos 403) (decimal id) (next_key x)) (close id it (parts v) x)) (is_found x.endpoints id now endpoint here at)
    (record {
      call = record {
        kept = after ∙ ap (λ ys. wait_last Closes (record x { endpoints = ys })) (e ∙ remove_at x.endpoints id);
        steps = subst (λ r. Sees (flat_map (wakes_at x) now.senders ++ r) v w) (same_receiver x now.receiver) steps;
      };
      answer = (refl, refl, refl);
    }))

-- ---- send
module _ (x : Endpoints) (v w : View) (key place id : ℕ) (it : Datagram) where
  pub answered_again : (y : Endpoints) (on : ℕ) (value : Value) → waiting_at place x ≡ Some (Offers id it)
      → is_answer value (codes "sent") ≡ false → is_answer value (codes "again") ≡ true
      → ((old : Waiting) → waiting_at place x ≡ Some old → y ≡ wait_again place (moved on old) x)
      → on ≡ length v.futures → w ≡ made Plain v → SaysSeen y v w (Wait on key) (offered key place id it (Send value) (parts v) x)
  answered_again y on value is sent again after number made_ =
      subst (λ (b : Bool). SaysSeen y v w (Wait on key) (said b (is_answer value (codes "again")))) (sym sent)
      (subst (λ (b : Bool). SaysSeen y v w (Wait on key) (said false b)) (sym again) (record {
        call = record {
          kept = after (Offers id it) is ∙ ap (λ n. wait_again place (Sends id it n) x) number;
          steps = λ known. (w, made_, refl);
        };
        answer = (number, refl);
      }))
    where
      said : (sent again : Bool) → ExtraSaid Endpoints
      said sent again =
          if sent then leaves place id (extra.Answers Nothing) x
          else (if again
          then says (wait_again place (Sends id it (next_future (parts v))) x) (MakesPlain ∷ []) (extra.Waits (next_future (parts v)) key)
          else leaves place id (extra.Raises send_failed) x)

-- ---- receive, as its task goes on
pub receives_seen : (x y : Endpoints) (v w : View) (key place id : ℕ) (value : Value) (asked : Asked) → is_some (endpoint_at id x) ≡ true
    → ((endpoint : Endpoint) → endpoint_at id x ≡ Some endpoint → SaysSeen y v w asked (received key place id endpoint (parts v) x))
    → SaysSeen y v w asked (receives_again key place id (Send value) (parts v) x)
receives_seen x y v w key place id value asked is seen =
    let it = some_of (endpoint_at id x) is in
    subst (λ o. SaysSeen y v w asked (of o)) (sym it.1) (seen it.0 it.1)
  where
    of : Option Endpoint → ExtraSaid Endpoints
    of o = elim o [ None ↦ gives_up place id is_closed x | Some endpoint ↦ received key place id endpoint (parts v) x ]

-- ---- send, as its task goes on
pub sends_seen : (x y : Endpoints) (v w : View) (key place id : ℕ) (it : Datagram) (value : Value) (asked : Asked)
    → is_some (endpoint_at id x) ≡ true
    → ((endpoint : Endpoint) → endpoint_at id x ≡ Some endpoint → SaysSeen y v w asked (asks_again key place id it endpoint (parts v) x))
    → SaysSeen y v w asked (sends_again key place id it (Send value) (parts v) x)
sends_seen x y v w key place id it value asked is seen =
    let one = some_of (endpoint_at id x) is in
    subst (λ o. SaysSeen y v w asked (of o)) (sym one.1) (seen one.0 one.1)
  where
    of : Option Endpoint → ExtraSaid Endpoints
    of o = elim o [ None ↦ leaves place id (extra.Raises is_closed) x | Some endpoint ↦ asks_again key place id it endpoint (parts v) x ]
