-- Futures stay no task's along every way, and no change calls a step.
use Rattle.std.proofs.Common.{◌≡◌, ◌⊎◌, inl, inr, ℕ, List, [], ◌∷◌, ◌++◌, Option, Some, None, Ok, length, slice_get, ◌∙◌, refl, sym, ap, subst}
use Rattle.std.proofs.lemmas.Bool.{cases_eq}
use Rattle.law_cancel.proofs.Lookups.{get-set_kept, get-push_last, get-push_other}
use Rattle.model_loop.specs.Owning.{owner_at}
use Rattle.model_loop.specs.Parts.{Future, Plain}
use Rattle.model_value.specs.Value.{Outcome}
use Rattle.model_stream.specs.Doing.{Change, Doing, MakeFuture, CallSoon, Settle}
use Rattle.aio_future.specs.Settled.{settled, settled_at, settled_until}
use Rattle.aio_task.specs.View.{View}
use Rattle.aio_wire.specs.Outside.{Outside}
use Rattle.aio_exchange.specs.Exchanged.{Last, All, Met, Starved}
use Rattle.aio_exchange.specs.Follows.{EndsBy, Follows, Reach, UnlessStarved}
use Rattle.aio_exchange.specs.Tells.{Tells}
use Rattle.aio_exchange.specs.Ways.{Move, Did, Heard, changed_on}
use Rattle.aio_change.specs.Owned.{AreOwn, IsOwn, IsOwnIfAny, KeepsOwn}
use Rattle.aio_change.specs.Seen.{seen_changed}

abbrev made_future : Future
made_future = record { kind = Plain; outcome = None; callbacks = [] }

-- an outcome makes no future a task's
pub owner_settled : (id : ℕ) (outcome : Outcome) (futures : List Future) (other : ℕ)
    → owner_at (slice_get (settled id outcome futures) other) ≡ owner_at (slice_get futures other)
owner_settled id outcome futures other = at (slice_get futures id) refl
  where
    until : (future : Future) (done : Option Outcome) → slice_get futures id ≡ Some future
        → owner_at (slice_get (settled_until done future id outcome futures) other) ≡ owner_at (slice_get futures other)
    until future (Some done) e = refl
    until future None e = get-set_kept owner_at futures id other future (record future { outcome = Some outcome; callbacks = [] }) e refl

    at : (it : Option Future) → slice_get futures id ≡ it
        → owner_at (slice_get (settled_at it id outcome futures) other) ≡ owner_at (slice_get futures other)
    at None e = refl
    at (Some future) e = until future future.outcome e

-- nor does a future that is made
own_pushed : (futures : List Future) (other : ℕ) → owner_at (slice_get futures other) ≡ None
    → owner_at (slice_get (futures ++ made_future ∷ []) other) ≡ None
own_pushed futures other own = at (cases_eq other (length futures))
  where
    at : (other ≡ length futures) ⊎ (other ≡ length futures → ⊥) → owner_at (slice_get (futures ++ made_future ∷ []) other) ≡ None
    at (inl e) = rw e (ap owner_at (get-push_last futures made_future))
    at (inr n) = ap owner_at (get-push_other futures made_future other n) ∙ own

pub own_changed : (it : Change) (v : View) (future : ℕ) → IsOwn v future → IsOwn (seen_changed it v) future
own_changed MakeFuture v future own = own_pushed v.futures future own
own_changed (CallSoon action) v future own = own
own_changed (Settle id outcome) v future own = owner_settled id outcome v.futures future ∙ own

pub own_along : (way : List Move) (v : View) (future : ℕ) → IsOwn v future → IsOwn (changed_on seen_changed way v) future
own_along [] v future own = own
own_along (Did it ∷ way) v future own = own_along way (seen_changed it v) future (own_changed it v future own)
own_along (Heard call answer ∷ way) v future own = own_along way v future own

pub are_own_along : (way : List Move) (v : View) (futures : List ℕ) → AreOwn v futures → AreOwn (changed_on seen_changed way v) futures
are_own_along way v [] own = tt
are_own_along way v (future ∷ futures) own = (own_along way v future own.0, are_own_along way v futures own.1)

-- the one that is made
pub own_made : (v : View) → IsOwn (seen_changed MakeFuture v) (length v.futures)
own_made v = ap owner_at (get-push_last v.futures made_future)

idle_changed : (it : Change) (v : View) → (seen_changed it v).called ≡ v.called
idle_changed MakeFuture v = refl
idle_changed (CallSoon action) v = refl
idle_changed (Settle id outcome) v = refl

pub idle_along : (way : List Move) (v : View) → (changed_on seen_changed way v).called ≡ v.called
idle_along [] v = refl
idle_along (Did it ∷ way) v = idle_along way (seen_changed it v) ∙ idle_changed it v
idle_along (Heard call answer ∷ way) v = idle_along way v

-- ---- what keeps each keeps several, and one that there may be
pub are_kept : (old new : View) → KeepsOwn old new → (futures : List ℕ) → AreOwn old futures → AreOwn new futures
are_kept old new keeps [] own = tt
are_kept old new keeps (future ∷ futures) own = (keeps future own.0, are_kept old new keeps futures own.1)

pub is_kept_if_any : (old new : View) → KeepsOwn old new → (future : Option ℕ) → IsOwnIfAny old future → IsOwnIfAny new future
is_kept_if_any old new keeps None own = tt
is_kept_if_any old new keeps (Some future) own = keeps future own

-- ---- a call that asks nothing
module _ {A : Type 0} (doing : Doing A) (old new : View) (result : A) (told : Tells seen_changed doing old new result) where
  pub told_keeps : KeepsOwn old new
  told_keeps future own = subst (λ (v : View). IsOwn v future) (sym told.parts) (own_along told.way old future own)

  pub told_own : (futures : List ℕ) → AreOwn old futures → AreOwn new futures
  told_own = are_kept old new told_keeps

  pub told_idle : old.called ≡ None → new.called ≡ None
  told_idle idle = ap (λ (v : View). v.called) told.parts ∙ idle_along told.way old ∙ idle

-- ---- a call that asks
pub went_keeps : {A W : Type 0} (o : Outside W) (doing : Doing A) (old new : Reach View W) (result : A)
    → Follows o seen_changed doing old new (Ok result) → KeepsOwn old.parts new.parts
went_keeps o doing old new result f = at f.last f.parts f.ends
  where
    at : (last : Last) → UnlessStarved (new.parts ≡ changed_on seen_changed f.way old.parts) last
        → EndsBy last f.left new.port.events.answers (Ok result) → KeepsOwn old.parts new.parts
    at All parts ends = λ future own. subst (λ (v : View). IsOwn v future) (sym parts) (own_along f.way old.parts future own)
    at (Met call said) parts ends = absurd ends
    at Starved parts ends = absurd ends
