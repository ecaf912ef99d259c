-- What is done for one connection or child hands nothing to another.
use Rattle.std.proofs.Common.{◌≡◌, ℕ, ◌+◌, Bool, true, false, cond, eqb, List, [], ◌∷◌, ◌++◌, refl, ap, ◌∙◌, arith}
use Rattle.model_value.specs.Value.{Outcome}
use Rattle.model_wire.specs.declared.answer.Answer.TheVariants as answer
use Rattle.model_wire.specs.declared.call.Call.TheVariants as call
use Rattle.model_wire.specs.declared.event.Handed.{Handed}
use Rattle.model_wire.specs.declared.event.Handed.TheVariants as to
use Rattle.model_wire.specs.Call.{Answer}
use Rattle.model_wire.specs.Event.{handed_by, taken_of}
use Rattle.model_value.specs.declared.action.Action.TheVariants as action
use Rattle.model_stream.specs.Doing.{Doing, Ends, Changes, Asks, Change, CallSoon, MakeFuture, Settle, and_then, settles}
use Rattle.model_stream.specs.History.{is_same}
use Rattle.law_stream.specs.SoundSenders.{outlet_of}
use Rattle.law_stream.specs.Ways.{Move, Did, Heard, Always, closes, handed_in, is_close, is_loss, losses, one_if}
use Rattle.law_stream.proofs.SoundSenders.{make_quiet, settle_quiet}
use Rattle.law_stream.proofs.Along.{always_map}
use Rattle.law_order.specs.Frames.{IsActionOf, IsApart, IsCallOf, IsFramed}

pub apart_start : (whom : Handed) → IsApart whom []
apart_start whom = record { hands = refl; loses = refl; closes = refl }

pub none_and : (some : ℕ) (b : Bool) → b ≡ false → some ≡ 0 → one_if b + some ≡ 0
none_and some true is same = absurd (let bad : ⊥ = cc in bad)
none_and some false is same = omega (arith, same)

pub apart_did : (whom : Handed) (change : Change) (moves : List Move) → is_loss whom change ≡ false → IsApart whom moves
    → IsApart whom (Did change ∷ moves)
apart_did whom change moves none it =
    record { hands = it.hands; loses = none_and (losses whom moves) (is_loss whom change) none it.loses; closes = it.closes }

-- ---- put together
module _ (whom : Handed) where
  pub framed_if : {A : Type 0} (b : Bool) (x y : Doing A) → IsFramed whom x → IsFramed whom y → IsFramed whom (cond b x y)
  framed_if true x y here there = here
  framed_if false x y here there = there

  pub framed_told : {A : Type 0} (futures : List ℕ) (outcome : Outcome) (rest : Doing A) → IsFramed whom rest → IsFramed whom (settles futures outcome rest)
  framed_told [] outcome rest h = h
  framed_told (future ∷ futures) outcome rest h = framed_told futures outcome rest h

  pub framed_then : {A B : Type 0} (doing : Doing A) (next : A → Doing B) → IsFramed whom doing → ((result : A) → IsFramed whom (next result))
      → IsFramed whom (and_then doing next)
  framed_then (Ends result) next h each = each result
  framed_then (Changes MakeFuture rest) next h each = framed_then rest next h each
  framed_then (Changes (Settle future outcome) rest) next h each = framed_then rest next h each
  framed_then (Changes (CallSoon action) rest) next h each = (h.0, framed_then rest next h.1 each)
  framed_then (Asks call rest) next h each = (h.0, λ answer. framed_then (rest answer) next (h.1 answer) each)

  pub framed_into : {A B : Type 0} (into : A → B) (doing : Doing A) → IsFramed whom doing → IsFramed whom (and_then doing (λ result. Ends (into result)))
  framed_into into doing h = framed_then doing (λ result. Ends (into result)) h (λ result. tt)

  -- along every way
  pub framed_hands : {A : Type 0} (other : Handed) → is_same other whom ≡ false → (doing : Doing A) → IsFramed whom doing
      → Always (λ moves result. IsApart other moves) doing
  framed_hands other apart (Ends result) h = apart_start other
  framed_hands other apart (Changes MakeFuture rest) h =
      always_map (λ moves result. IsApart other moves) (λ moves result. IsApart other (Did MakeFuture ∷ moves)) rest
      (λ moves result it. apart_did other MakeFuture moves (make_quiet other) it) (framed_hands other apart rest h)
  framed_hands other apart (Changes (Settle future outcome) rest) h =
      always_map (λ moves result. IsApart other moves) (λ moves result. IsApart other (Did (Settle future outcome) ∷ moves)) rest
      (λ moves result it. apart_did other (Settle future outcome) moves (settle_quiet other future outcome) it) (framed_hands other apart rest h)
  framed_hands other apart (Changes (CallSoon action) rest) h =
      always_map (λ moves result. IsApart other moves) (λ moves result. IsApart other (Did (CallSoon action) ∷ moves)) rest
      (λ moves result it. apart_did other (CallSoon action) moves (h.0 other apart) it) (framed_hands other apart rest h.1)
  framed_hands other apart (Asks call rest) h =
      λ answer fit.
      always_map (λ moves result. IsApart other moves) (λ moves result. IsApart other (Heard call answer ∷ moves)) (rest answer)
      (λ moves result it. record {
        hands = ap (λ bytes. bytes ++ handed_in other moves) ((h.0 other apart).1 answer) ∙ it.hands;
        loses = it.loses;
        closes = none_and (closes other moves) (is_close other call) (h.0 other apart).0 it.closes;
      })
      (framed_hands other apart (rest answer) (h.1 answer))

-- ---- the calls of each
pub apart_taken : (b : Bool) (bytes : List ℕ) (count : ℕ) → b ≡ false → taken_of b bytes count ≡ []
apart_taken true bytes count is = absurd (let bad : ⊥ = cc in bad)
apart_taken false bytes count is = refl

conn_hands : (id other : ℕ) (bytes : List ℕ) → eqb other id ≡ false → (came : Answer) → handed_by (to.Conn other) (call.Send id bytes) came ≡ []
conn_hands id other bytes apart (answer.Took count) = apart_taken (eqb other id) bytes count apart
conn_hands id other bytes apart _ = refl

child_hands : (id other : ℕ) (bytes : List ℕ) → eqb other id ≡ false → (came : Answer) → handed_by (to.Child other) (call.Feed id bytes) came ≡ []
child_hands id other bytes apart (answer.Took count) = apart_taken (eqb other id) bytes count apart
child_hands id other bytes apart _ = refl

pub sends_of : (whom : Handed) (bytes : List ℕ) → IsCallOf whom ((outlet_of whom).sends bytes)
sends_of (to.Conn id) bytes (to.Conn other) apart = (refl, conn_hands id other bytes apart)
sends_of (to.Conn id) bytes (to.Child other) apart = (refl, λ came. refl)
sends_of (to.Child id) bytes (to.Conn other) apart = (refl, λ came. refl)
sends_of (to.Child id) bytes (to.Child other) apart = (refl, child_hands id other bytes apart)

pub closes_of : (whom : Handed) → IsCallOf whom (outlet_of whom).closes
closes_of (to.Conn id) (to.Conn other) apart = (apart, λ came. refl)
closes_of (to.Conn id) (to.Child other) apart = (refl, λ came. refl)
closes_of (to.Child id) (to.Conn other) apart = (refl, λ came. refl)
closes_of (to.Child id) (to.Child other) apart = (apart, λ came. refl)

pub loses_of : (whom : Handed) (broken : Bool) → IsActionOf whom ((outlet_of whom).loses broken)
loses_of (to.Conn id) broken (to.Conn other) apart = apart
loses_of (to.Conn id) broken (to.Child other) apart = refl
loses_of (to.Child id) broken (to.Conn other) apart = refl
loses_of (to.Child id) broken (to.Child other) apart = apart

pub made_of : (whom : Handed) (id : ℕ) → IsActionOf whom (action.Made id)
made_of whom id (to.Conn other) apart = refl
made_of whom id (to.Child other) apart = refl

pub started_of : (whom : Handed) (id : ℕ) → IsActionOf whom (action.StartRead id)
started_of whom id (to.Conn other) apart = refl
started_of whom id (to.Child other) apart = refl
