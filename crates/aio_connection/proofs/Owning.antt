-- The futures of a connection stay no task's.
use Rattle.std.proofs.Common.{◌≡◌, ◌==◌, if◌then◌else◌, ℕ, Bool, true, false, Option, Some, None, Result, Ok, Err, OnOk, IfOk, refl, sym, subst}
use Rattle.model_stream.specs.Connections.{Connection, unmade}
use Rattle.model_stream.specs.Doing.{Doing}
use Rattle.model_stream.specs.Receivers.{Receiver, give_up_read}
use Rattle.model_stream.specs.Senders.{Sender, with_writer}
use Rattle.model_stream.specs.Sending.{set_eof}
use Rattle.aio_wire.specs.Outside.{Outside}
use Rattle.aio_wire.specs.declared.stop.Stop.{Stop}
use Rattle.aio_exchange.specs.Follows.{Follows, Reach, after_of, with_after}
use Rattle.aio_exchange.specs.Tells.{Tells}
use Rattle.aio_task.specs.View.{View}
use Rattle.aio_change.specs.Owned.{IsOwnIfAny, KeepsOwn}
use Rattle.aio_change.specs.Seen.{seen_changed}
use Rattle.aio_change.proofs.Owning.{are_kept, is_kept_if_any, told_keeps, went_keeps}
use Rattle.aio_sender.specs.Owned.{OwnsSender, futures_of}
use Rattle.aio_connection.specs.Owned.{OwnsConnection}

module _ (old new : View) (keeps : KeepsOwn old new) (c after : Connection) where
  -- it stands
  pub own_standing : after ≡ record c { making = None } → OwnsConnection old c → OwnsConnection new after
  own_standing is own = subst (OwnsConnection new) (sym is) (record {
    making = tt;
    sender = are_kept old new keeps (futures_of c.sender) own.sender;
    waiter = is_kept_if_any old new keeps c.receiver.waiter own.waiter;
  })

  -- it is over before it stood
  pub own_unmade : after ≡ unmade c → OwnsConnection old c → OwnsConnection new after
  own_unmade is own = subst (OwnsConnection new) (sym is) (record {
    making = tt;
    sender = are_kept old new keeps (futures_of c.sender) own.sender;
    waiter = is_kept_if_any old new keeps c.receiver.waiter own.waiter;
  })

  -- its sender changed
  pub own_with_sender : (s : Sender) → after ≡ record c { sender = s } → OwnsSender new s → OwnsConnection old c → OwnsConnection new after
  own_with_sender s is sender own = subst (OwnsConnection new) (sym is) (record {
    making = is_kept_if_any old new keeps c.making own.making;
    sender = sender;
    waiter = is_kept_if_any old new keeps c.receiver.waiter own.waiter;
  })

  -- its receiver changed
  pub own_with_receiver : (r : Receiver) → after ≡ record c { receiver = r } → IsOwnIfAny new r.waiter → OwnsConnection old c
      → OwnsConnection new after
  own_with_receiver r is waiter own = subst (OwnsConnection new) (sym is) (record {
    making = is_kept_if_any old new keeps c.making own.making;
    sender = are_kept old new keeps (futures_of c.sender) own.sender;
    waiter = waiter;
  })

  -- nobody waits for its receiver any more
  pub own_woken : (r : Receiver) → after ≡ record c { receiver = r } → r.waiter ≡ None → OwnsConnection old c → OwnsConnection new after
  own_woken r is nobody = own_with_receiver r is (subst (IsOwnIfAny new) (sym nobody) tt)

-- a read gave up waiting
module _ (v : View) (on : ℕ) (r : Receiver) where
  abbrev given_by : Option ℕ → Receiver
  given_by waiter = elim waiter [ None ↦ r | Some future ↦ if future == on then record r { waiter = None } else r ]

  pub own_given_up : IsOwnIfAny v r.waiter → IsOwnIfAny v (give_up_read on r).waiter
  own_given_up own = at r.waiter
    where
      by : (same : Bool) → IsOwnIfAny v (if same then record r { waiter = None } else r).waiter
      by true = tt
      by false = own

      at : (waiter : Option ℕ) → IsOwnIfAny v (given_by waiter).waiter
      at None = own
      at (Some future) = by (future == on)

-- the end was written
pub own_eof : (v : View) (c after : Connection) → after ≡ record c { sender = with_writer (set_eof c.sender.writer) c.sender }
    → OwnsConnection v c → OwnsConnection v after
own_eof v c after is own =
    subst (OwnsConnection v) (sym is) (record { making = own.making; sender = own.sender; waiter = own.waiter })

-- ---- a call of its sender
module _ {R W : Type 0} (o : Outside W) (c : Connection) (s : Sender) (old new : Reach View W) where
  pub own_if_wrote : (doing : Doing (Sender × R)) (result : Result R Stop) → Follows o seen_changed doing old new (with_after s result)
      → OnOk result (OwnsSender old.parts c.sender → OwnsSender new.parts s)
      → OnOk result (OwnsConnection old.parts c → OwnsConnection new.parts (record c { sender = s }))
  own_if_wrote doing (Ok said) f keeps = λ own.
      own_with_sender old.parts new.parts (went_keeps o doing old new (s, said) f) c (record c { sender = s }) s refl (keeps own.sender) own
  own_if_wrote doing (Err why) f keeps = tt

  pub own_if_went : (doing : Doing Sender) (result : Result R Stop) → Follows o seen_changed doing old new (after_of s result)
      → OnOk result (OwnsSender new.parts s) → OwnsConnection old.parts c → OnOk result (OwnsConnection new.parts (record c { sender = s }))
  own_if_went doing (Ok said) f sender own =
      own_with_sender old.parts new.parts (went_keeps o doing old new s f) c (record c { sender = s }) s refl sender own
  own_if_went doing (Err why) f sender own = tt

module _ {R E : Type 0} (c : Connection) (old new : View) where
  pub own_if_told : (s : Sender) (doing : Doing Sender) (result : Result R E) → OnOk result (Tells seen_changed doing old new s)
      → OnOk result (OwnsSender old c.sender → OwnsSender new s)
      → OnOk result (OwnsConnection old c → OwnsConnection new (record c { sender = s }))
  own_if_told s doing (Ok said) told keeps = λ own.
      own_with_sender old new (told_keeps doing old new s told) c (record c { sender = s }) s refl (keeps own.sender) own
  own_if_told s doing (Err why) told keeps = tt

  pub own_if_said : (s : Sender) (doing : Doing (Sender × R)) (result : Result R E) → IfOk result (λ said. Tells seen_changed doing old new (s, said))
      → OnOk result (OwnsSender old c.sender → OwnsSender new s)
      → OnOk result (OwnsConnection old c → OwnsConnection new (record c { sender = s }))
  own_if_said s doing (Ok said) told keeps = λ own.
      own_with_sender old new (told_keeps doing old new (s, said) told) c (record c { sender = s }) s refl (keeps own.sender) own
  own_if_said s doing (Err why) told keeps = tt

  -- ---- a call of its receiver
  pub own_if_received : (r : Receiver) (doing : Doing Receiver) (result : Result R E) → OnOk result (Tells seen_changed doing old new r)
      → OnOk result (r.waiter ≡ None) → OwnsConnection old c → OnOk result (OwnsConnection new (record c { receiver = r }))
  own_if_received r doing (Ok said) told nobody own =
      own_woken old new (told_keeps doing old new r told) c (record c { receiver = r }) r refl nobody own
  own_if_received r doing (Err why) told nobody own = tt

  pub own_if_read : {S : Type 0} (said_as : R → S) (r : Receiver) (doing : Doing (Receiver × S)) (result : Result R E)
      → IfOk result (λ said. Tells seen_changed doing old new (r, said_as said))
      → OnOk result (IsOwnIfAny old c.receiver.waiter → IsOwnIfAny new r.waiter)
      → OnOk result (OwnsConnection old c → OwnsConnection new (record c { receiver = r }))
  own_if_read said_as r doing (Ok said) told keeps = λ own.
      own_with_receiver old new (told_keeps doing old new (r, said_as said) told) c (record c { receiver = r }) r refl (keeps own.waiter) own
  own_if_read said_as r doing (Err why) told keeps = tt
