-- Trees put together, and what is kept where more is so.
use Rattle.std.proofs.Common.{◌≡◌, ◌⊎◌, inl, inr, ℕ, zero, suc, ◌+◌, ◌≤◌, Bool, true, false, cond, List, [], ◌∷◌, ◌++◌, Option, Some, None, slice_get}
use Rattle.std.proofs.Common.{slice_set, ap, subst, arith}
use Rattle.std.specs.Option.{option_map_or}
use Rattle.model_value.specs.Value.{Outcome}
use Rattle.model_wire.specs.Call.{Call}
use Rattle.model_stream.specs.Children.{Child}
use Rattle.model_stream.specs.Connections.{Connection}
use Rattle.model_stream.specs.Doing.{Doing, Ends, Changes, Asks, MakeFuture, CallSoon, Settle, and_then, asks, settles}
use Rattle.model_stream.specs.Receivers.{Receiver}
use Rattle.model_stream.specs.Senders.{Sender}
use Rattle.model_stream.specs.Streams.{Streams}
use Rattle.model_stream.specs.Kept.{AllAre, OneIs, SenderKeeps, ReceiverKeeps, ConnectionKeeps, ChildKeeps, StreamsKeep}
use Rattle.law_cases.specs.Trees.{IsKnown, IsMade, IsOwn, Keeping, Owned, is_aside, names_opened}

-- ---- where more is so
module _ (P Q : ℕ → Type 0) (more : (future : ℕ) → P future → Q future) where
  pub all_more : (futures : List ℕ) → AllAre P futures → AllAre Q futures
  all_more [] h = tt
  all_more (future ∷ futures) h = (more future h.0, all_more futures h.1)

  pub one_more : (future : Option ℕ) → OneIs P future → OneIs Q future
  one_more None h = tt
  one_more (Some future) h = more future h

  pub sender_more : (s : Sender) → SenderKeeps P s → SenderKeeps Q s
  sender_more s h = (more s.closed_future h.0, all_more s.drains h.1)

  pub receiver_more : (r : Receiver) → ReceiverKeeps P r → ReceiverKeeps Q r
  receiver_more r h = one_more r.waiter h

  pub connection_more : (c : Connection) → ConnectionKeeps P c → ConnectionKeeps Q c
  connection_more c h = (one_more c.making h.0, sender_more c.sender h.1, receiver_more c.receiver h.2)

  pub child_more : (p : Child) → ChildKeeps P p → ChildKeeps Q p
  child_more p h = (sender_more p.stdin h.0, receiver_more p.out h.1, receiver_more p.errs h.2, all_more p.waits h.3)

  pub streams_more : (s : Streams) → StreamsKeep P s → StreamsKeep Q s
  streams_more s h = record {
    connections = λ id c e. connection_more c (h.connections id c e);
    children = λ id p e. child_more p (h.children id p e);
  }

-- where everything is so
module _ (P : ℕ → Type 0) (each : (future : ℕ) → P future) where
  all_are : (futures : List ℕ) → AllAre P futures
  all_are [] = tt
  all_are (future ∷ futures) = (each future, all_are futures)

  one_is : (future : Option ℕ) → OneIs P future
  one_is None = tt
  one_is (Some future) = each future

  sender_all : (s : Sender) → SenderKeeps P s
  sender_all s = (each s.closed_future, all_are s.drains)

  pub streams_all : (s : Streams) → StreamsKeep P s
  streams_all s = record {
    connections = λ id c e. (one_is c.making, sender_all c.sender, one_is c.receiver.waiter);
    children = λ id p e. (sender_all p.stdin, one_is p.out.waiter, one_is p.errs.waiter, all_are p.waits);
  }

pub all_then : (P : ℕ → Type 0) (futures : List ℕ) (future : ℕ) → AllAre P futures → P future → AllAre P (futures ++ future ∷ [])
all_then P [] future h it = (it, tt)
all_then P (other ∷ futures) future h it = (h.0, all_then P futures future h.1 it)

-- what was kept before is known
pub known : (own : Owned) (first next future : ℕ) → IsOwn own future → IsKnown own first next future
known own first next future h = inl h

pub made_first : (first : ℕ) → IsMade first (first + 1) first
made_first first = (omega arith, omega arith)

-- what is known stays so
pub known_on : (own : Owned) (first next later future : ℕ) → next ≤ later → IsKnown own first next future → IsKnown own first later future
known_on own first next later future on (inl h) = inl h
known_on own first next later future on (inr h) = inr (h.0, (let below = h.1 in omega (arith, on, below)))

-- ---- lists of what is open
some_is : {A : Type 0} (x y : A) → Some x ≡ Some y → x ≡ y
some_is x y e = ap (λ o. option_map_or (λ z. z) o x) e

pub set_get : {A : Type 0} (xs : List A) (id place : ℕ) (x y : A) → slice_get (slice_set xs id x) place ≡ Some y
    → (x ≡ y) ⊎ (slice_get xs place ≡ Some y)
set_get [] id place x y e = inr e
set_get (h ∷ xs) zero zero x y e = inl (some_is x y e)
set_get (h ∷ xs) zero (suc place) x y e = inr e
set_get (h ∷ xs) (suc id) zero x y e = inr e
set_get (h ∷ xs) (suc id) (suc place) x y e = set_get xs id place x y e

pub push_get : {A : Type 0} (xs : List A) (place : ℕ) (x y : A) → slice_get (xs ++ x ∷ []) place ≡ Some y → (x ≡ y) ⊎ (slice_get xs place ≡ Some y)
push_get [] zero x y e = inl (some_is x y e)
push_get [] (suc place) x y e = inr e
push_get (h ∷ xs) zero x y e = inr e
push_get (h ∷ xs) (suc place) x y e = push_get xs place x y e

pub either_is : {A : Type 0} (P : A → Type 0) (x y : A) {Other : Type 0} → P x → (Other → P y) → (x ≡ y) ⊎ Other → P y
either_is P x y here there (inl same) = subst P same here
either_is P x y here there (inr other) = there other

-- ---- trees
module _ (own : Owned) where
  pub keeping_then : {A B : Type 0} (Left : ℕ → B → Type 0) (next : ℕ) (doing : Doing A) (then_ : A → Doing B)
      → Keeping (λ after result. Keeping Left own after (then_ result)) own next doing → Keeping Left own next (and_then doing then_)
  keeping_then Left next (Ends result) then_ h = h
  keeping_then Left next (Changes MakeFuture rest) then_ h = keeping_then Left (next + 1) rest then_ h
  keeping_then Left next (Changes (CallSoon it) rest) then_ h = (h.0, keeping_then Left next rest then_ h.1)
  keeping_then Left next (Changes (Settle future outcome) rest) then_ h = (h.0, keeping_then Left next rest then_ h.1)
  keeping_then Left next (Asks asked rest) then_ h = (h.0, λ answer. keeping_then Left next (rest answer) then_ (h.1 answer))

  pub keeping_more : {A : Type 0} (Left More : ℕ → A → Type 0) → ((next : ℕ) (result : A) → Left next result → More next result)
      → (next : ℕ) (doing : Doing A) → Keeping Left own next doing → Keeping More own next doing
  keeping_more Left More more next (Ends result) h = more next result h
  keeping_more Left More more next (Changes MakeFuture rest) h = keeping_more Left More more (next + 1) rest h
  keeping_more Left More more next (Changes (CallSoon it) rest) h = (h.0, keeping_more Left More more next rest h.1)
  keeping_more Left More more next (Changes (Settle future outcome) rest) h = (h.0, keeping_more Left More more next rest h.1)
  keeping_more Left More more next (Asks asked rest) h = (h.0, λ answer. keeping_more Left More more next (rest answer) (h.1 answer))

  pub keeping_if : {A : Type 0} (Left : ℕ → A → Type 0) (next : ℕ) (b : Bool) (x y : Doing A) → Keeping Left own next x → Keeping Left own next y
      → Keeping Left own next (cond b x y)
  keeping_if Left next true x y here there = here
  keeping_if Left next false x y here there = there

  pub keeping_settles : {A : Type 0} (Left : ℕ → A → Type 0) (next : ℕ) (futures : List ℕ) (outcome : Outcome) (rest : Doing A)
      → AllAre (IsOwn own) futures → names_opened own.connections outcome ≡ true → Keeping Left own next rest
      → Keeping Left own next (settles futures outcome rest)
  keeping_settles Left next [] outcome rest all none h = h
  keeping_settles Left next (future ∷ futures) outcome rest all none h =
      ((all.0, none), keeping_settles Left next futures outcome rest all.1 none h)

  pub keeping_asks : {A : Type 0} (Left : ℕ → A → Type 0) (next : ℕ) (asked : Call) (rest : Doing A) → is_aside asked ≡ false
      → Keeping Left own next rest → Keeping Left own next (asks asked rest)
  keeping_asks Left next asked rest other h = (other, λ answer. h)
