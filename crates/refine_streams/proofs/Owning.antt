-- The futures that streams keep are no task's in code, where they are plain ones in the machine.
use Rattle.std.proofs.Common.{◌≡◌, ℕ, zero, suc, true, List, [], ◌∷◌, Option, Some, None, slice_get, refl, subst}
use Rattle.std.specs.List.{AllByRecursion as Each}
use Rattle.std.proofs.Props.{props}
use Rattle.model_loop.specs.Owning.{is_plain}
use Rattle.model_loop.specs.Parts.{Parts}
use Rattle.model_stream.specs.Children.{Child}
use Rattle.model_stream.specs.Connections.{Connection}
use Rattle.model_stream.specs.Kept.{AllAre, ChildKeeps, ConnectionKeeps, OneIs, SenderKeeps, StreamsKeep}
use Rattle.model_stream.specs.Senders.{Sender}
use Rattle.model_stream.specs.Streams.{Streams}
use Rattle.aio_task.specs.Keeps.{Keeps, NameMap}
use Rattle.aio_task.specs.View.{View}
use Rattle.aio_change.specs.Owned.{AreOwn, IsOwn, IsOwnIfAny}
use Rattle.aio_sender.specs.Owned.{OwnsSender}
use Rattle.aio_connection.specs.Owned.{OwnsConnection}
use Rattle.aio_child.specs.Owned.{OwnsChild}
use Rattle.aio_transports.specs.Kept.{Kept as Transports}
use Rattle.aio_transports.specs.Owned.{OwnsTransports}
use Rattle.aio_transports.specs.Standing.{TransportsStandFor as AreTransports}
use Rattle.refine_streams.proofs.Keeping.{plain_own}

-- what is so of each that is found is so of all
each_found : {A : Type 0} (P : A → Type 0) (xs : List A) → ((id : ℕ) (x : A) → slice_get xs id ≡ Some x → P x) → Each P xs
each_found P [] found = tt
each_found P (x ∷ xs) found = (found zero x refl, each_found P xs (λ id y e. found (suc id) y e))

module _ (t : NameMap) (v : View) (p : Parts) (k : Keeps t v p) where
  abbrev IsPlain : ℕ → Type 0
  IsPlain future = is_plain p future ≡ true

  all_own : (futures : List ℕ) → AllAre IsPlain futures → AreOwn v futures
  all_own [] h = tt
  all_own (future ∷ futures) h = (plain_own t v p future k h.0, all_own futures h.1)

  one_own : (future : Option ℕ) → OneIs IsPlain future → IsOwnIfAny v future
  one_own None h = tt
  one_own (Some future) h = plain_own t v p future k h

  sender_own : (it : Sender) → SenderKeeps IsPlain it → OwnsSender v it
  sender_own it h = (plain_own t v p it.closed_future k h.0, all_own it.drains h.1)

  connection_own : (it : Connection) → ConnectionKeeps IsPlain it → OwnsConnection v it
  connection_own it h = record {
    making = one_own it.making h.0;
    sender = sender_own it.sender h.1;
    waiter = one_own it.receiver.waiter h.2;
  }

  child_own : (it : Child) → ChildKeeps IsPlain it → OwnsChild v it
  child_own it h = record {
    stdin = sender_own it.stdin h.0;
    out = one_own it.out.waiter h.1;
    errs = one_own it.errs.waiter h.2;
    waits = all_own it.waits h.3;
  }

  pub transports_own : (kept : Transports) (s : Streams) → AreTransports kept s → StreamsKeep IsPlain s → OwnsTransports v kept
  transports_own kept s stands keep = (
    subst (Each (OwnsConnection v)) stands.streams.connections
        (each_found (OwnsConnection v) s.connections (λ id c e. connection_own c (keep.connections id c e))),
    subst (Each (OwnsChild v)) stands.children.children
        (each_found (OwnsChild v) s.children (λ id c e. child_own c (keep.children id c e))),
  )

-- ---- and that is a proposition
own_prop : (v : View) (future : ℕ) → IsProp (IsOwn v future)
own_prop v future = hlevel props

each_prop : {A : Type 0} (P : A → Type 0) → ((x : A) → IsProp (P x)) → (xs : List A) → IsProp (Each P xs)
each_prop P one [] = hlevel props
each_prop P one (x ∷ xs) = hlevel (props, one x, each_prop P one xs)

any_prop : (v : View) (future : Option ℕ) → IsProp (IsOwnIfAny v future)
any_prop v None = hlevel props
any_prop v (Some future) = own_prop v future

sender_prop : (v : View) (it : Sender) → IsProp (OwnsSender v it)
sender_prop v it = each_prop (IsOwn v) (own_prop v) (it.closed_future ∷ it.drains)

connection_prop : (v : View) (it : Connection) → IsProp (OwnsConnection v it)
connection_prop v it = hlevel (props, any_prop v it.making, sender_prop v it.sender, any_prop v it.receiver.waiter)

child_prop : (v : View) (it : Child) → IsProp (OwnsChild v it)
child_prop v it =
    hlevel (props, sender_prop v it.stdin, any_prop v it.out.waiter, any_prop v it.errs.waiter, each_prop (IsOwn v) (own_prop v) it.waits)

pub owns_prop : (v : View) (kept : Transports) → IsProp (OwnsTransports v kept)
owns_prop v kept =
    hlevel
    (props, each_prop (OwnsConnection v) (connection_prop v) kept.streams.connections, each_prop (OwnsChild v) (child_prop v) kept.children.children)
