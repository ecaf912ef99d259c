-- The futures of a child stay no task's.
use Rattle.std.proofs.Common.{◌≡◌, ◌==◌, if◌then◌else◌, ℕ, ℤ, Bool, true, false, List, [], ◌∷◌, ◌++◌, Option, Some, None, Result, Ok, Err, OnOk, IfOk, length}
use Rattle.std.proofs.Common.{refl, sym, subst}
use Rattle.model_pump.specs.declared.stream.Stream.{Stream}
use Rattle.model_pump.specs.declared.stream.Stream.TheVariants as stream
use Rattle.model_stream.specs.Children.{Child, its_pipe}
use Rattle.model_stream.specs.Doing.{Doing, MakeFuture}
use Rattle.model_stream.specs.Receivers.{Receiver, give_up_read}
use Rattle.model_stream.specs.Senders.{Sender}
use Rattle.aio_wire.specs.Outside.{Outside}
use Rattle.aio_wire.specs.declared.stop.Stop.{Stop}
use Rattle.aio_exchange.specs.Follows.{Follows, Reach, after_of, with_after}
use Rattle.aio_exchange.specs.Tells.{Tells}
use Rattle.aio_task.specs.View.{View}
use Rattle.aio_change.specs.Owned.{AreOwn, IsOwn, IsOwnIfAny, KeepsOwn}
use Rattle.aio_change.specs.Seen.{seen_changed}
use Rattle.aio_change.proofs.Owning.{are_kept, is_kept_if_any, own_changed, own_made, told_keeps, went_keeps}
use Rattle.aio_sender.specs.Owned.{OwnsSender, futures_of}
use Rattle.aio_child.specs.Owned.{OwnsChild}

-- another call leaves them so
pub kept_child : (old new : View) → KeepsOwn old new → (p : Child) → OwnsChild old p → OwnsChild new p
kept_child old new keeps p own = record {
  stdin = are_kept old new keeps (futures_of p.stdin) own.stdin;
  out = is_kept_if_any old new keeps p.out.waiter own.out;
  errs = is_kept_if_any old new keeps p.errs.waiter own.errs;
  waits = are_kept old new keeps p.waits own.waits;
}

module _ (old new : View) (keeps : KeepsOwn old new) (p after : Child) where
  -- its standard input changed
  pub own_with_stdin : (s : Sender) → after ≡ record p { stdin = s } → OwnsSender new s → OwnsChild old p → OwnsChild new after
  own_with_stdin s is stdin own = subst (OwnsChild new) (sym is) (record {
    stdin = stdin;
    out = is_kept_if_any old new keeps p.out.waiter own.out;
    errs = is_kept_if_any old new keeps p.errs.waiter own.errs;
    waits = are_kept old new keeps p.waits own.waits;
  })

  -- a pipe changed
  pub own_with_pipe : (pipe : Stream) (r : Receiver) → after ≡ (its_pipe pipe).put r p → IsOwnIfAny new r.waiter → OwnsChild old p → OwnsChild new after
  own_with_pipe stream.Out r is waiter own = subst (OwnsChild new) (sym is) (record {
    stdin = are_kept old new keeps (futures_of p.stdin) own.stdin;
    out = waiter;
    errs = is_kept_if_any old new keeps p.errs.waiter own.errs;
    waits = are_kept old new keeps p.waits own.waits;
  })
  own_with_pipe stream.Errs r is waiter own = subst (OwnsChild new) (sym is) (record {
    stdin = are_kept old new keeps (futures_of p.stdin) own.stdin;
    out = is_kept_if_any old new keeps p.out.waiter own.out;
    errs = waiter;
    waits = are_kept old new keeps p.waits own.waits;
  })

  -- its exit is known
  pub own_exited : (code : ℤ) → after ≡ record p { code = Some code; waits = [] } → OwnsChild old p → OwnsChild new after
  own_exited code is own = subst (OwnsChild new) (sym is) (record {
    stdin = are_kept old new keeps (futures_of p.stdin) own.stdin;
    out = is_kept_if_any old new keeps p.out.waiter own.out;
    errs = is_kept_if_any old new keeps p.errs.waiter own.errs;
    waits = tt;
  })

  -- one more waits for its exit
  pub own_waiting : (next : ℕ) → after ≡ record p { waits = p.waits ++ next ∷ [] } → IsOwn new next → OwnsChild old p → OwnsChild new after
  own_waiting next is one own = subst (OwnsChild new) (sym is) (record {
    stdin = are_kept old new keeps (futures_of p.stdin) own.stdin;
    out = is_kept_if_any old new keeps p.out.waiter own.out;
    errs = is_kept_if_any old new keeps p.errs.waiter own.errs;
    waits = pushed p.waits (are_kept old new keeps p.waits own.waits);
  })
    where
      pushed : (waits : List ℕ) → AreOwn new waits → AreOwn new (waits ++ next ∷ [])
      pushed [] these = (one, tt)
      pushed (x ∷ xs) these = (these.0, pushed xs these.1)

-- the one that a read of a pipe waits on
pub own_of_pipe : (v : View) (p : Child) (pipe : Stream) → OwnsChild v p → IsOwnIfAny v ((its_pipe pipe).get p).waiter
own_of_pipe v p stream.Out own = own.out
own_of_pipe v p stream.Errs own = own.errs

-- a read gave up waiting
module _ (v : View) (on : ℕ) (r : Receiver) where
  abbrev given_by : Option ℕ → Receiver
  given_by waiter = elim waiter [ None ↦ r | Some future ↦ if future == on then record r { waiter = None } else r ]

  pub own_given_up : IsOwnIfAny v r.waiter → IsOwnIfAny v (give_up_read on r).waiter
  own_given_up own = at r.waiter
    where
      by : (same : Bool) → IsOwnIfAny v (if same then record r { waiter = None } else r).waiter
      by true = tt
      by false = own

      at : (waiter : Option ℕ) → IsOwnIfAny v (given_by waiter).waiter
      at None = own
      at (Some future) = by (future == on)

-- a wait's future was made
pub own_made_for : (p after : Child) (old new : View) (next : ℕ) → new ≡ seen_changed MakeFuture old → next ≡ length old.futures
    → after ≡ record p { waits = p.waits ++ next ∷ [] } → OwnsChild old p → OwnsChild new after
own_made_for p after old new next parts number is own =
    own_waiting old new (λ future it. subst (λ (v : View). IsOwn v future) (sym parts) (own_changed MakeFuture old future it)) p after next is
    (subst (λ (v : View). IsOwn v next) (sym parts) (subst (IsOwn (seen_changed MakeFuture old)) (sym number) (own_made old))) own

-- ---- a call of its standard input
module _ {R W : Type 0} (o : Outside W) (p : Child) (s : Sender) (old new : Reach View W) where
  pub own_if_wrote : (doing : Doing (Sender × R)) (result : Result R Stop) → Follows o seen_changed doing old new (with_after s result)
      → OnOk result (OwnsSender old.parts p.stdin → OwnsSender new.parts s)
      → OnOk result (OwnsChild old.parts p → OwnsChild new.parts (record p { stdin = s }))
  own_if_wrote doing (Ok said) f keeps = λ own.
      own_with_stdin old.parts new.parts (went_keeps o doing old new (s, said) f) p (record p { stdin = s }) s refl (keeps own.stdin) own
  own_if_wrote doing (Err why) f keeps = tt

  pub own_if_went : (doing : Doing Sender) (result : Result R Stop) → Follows o seen_changed doing old new (after_of s result)
      → OnOk result (OwnsSender new.parts s) → OwnsChild old.parts p → OnOk result (OwnsChild new.parts (record p { stdin = s }))
  own_if_went doing (Ok said) f stdin own =
      own_with_stdin old.parts new.parts (went_keeps o doing old new s f) p (record p { stdin = s }) s refl stdin own
  own_if_went doing (Err why) f stdin own = tt

-- ---- a call of a pipe
pub own_received : (p : Child) (old new : View) (pipe : Stream) (r : Receiver) (doing : Doing Receiver) → Tells seen_changed doing old new r
    → r.waiter ≡ None → OwnsChild old p → OwnsChild new ((its_pipe pipe).put r p)
own_received p old new pipe r doing told nobody own =
    own_with_pipe old new (told_keeps doing old new r told) p ((its_pipe pipe).put r p) pipe r refl
    (subst (IsOwnIfAny new) (sym nobody) tt) own

module _ {R E : Type 0} (p : Child) (old new : View) where
  pub own_if_told : (s : Sender) (doing : Doing Sender) (result : Result R E) → OnOk result (Tells seen_changed doing old new s)
      → OnOk result (OwnsSender old p.stdin → OwnsSender new s)
      → OnOk result (OwnsChild old p → OwnsChild new (record p { stdin = s }))
  own_if_told s doing (Ok said) told keeps = λ own.
      own_with_stdin old new (told_keeps doing old new s told) p (record p { stdin = s }) s refl (keeps own.stdin) own
  own_if_told s doing (Err why) told keeps = tt

  pub own_if_said : (s : Sender) (doing : Doing (Sender × R)) (result : Result R E) → IfOk result (λ said. Tells seen_changed doing old new (s, said))
      → OnOk result (OwnsSender old p.stdin → OwnsSender new s)
      → OnOk result (OwnsChild old p → OwnsChild new (record p { stdin = s }))
  own_if_said s doing (Ok said) told keeps = λ own.
      own_with_stdin old new (told_keeps doing old new (s, said) told) p (record p { stdin = s }) s refl (keeps own.stdin) own
  own_if_said s doing (Err why) told keeps = tt

  pub own_if_received : (pipe : Stream) (r : Receiver) (doing : Doing Receiver) (result : Result R E)
      → OnOk result (Tells seen_changed doing old new r) → OnOk result (r.waiter ≡ None)
      → OwnsChild old p → OnOk result (OwnsChild new ((its_pipe pipe).put r p))
  own_if_received pipe r doing (Ok said) told nobody own = own_received p old new pipe r doing told nobody own
  own_if_received pipe r doing (Err why) told nobody own = tt

  pub own_if_read : {S : Type 0} (pipe : Stream) (said_as : R → S) (r : Receiver) (doing : Doing (Receiver × S)) (result : Result R E)
      → IfOk result (λ said. Tells seen_changed doing old new (r, said_as said))
      → OnOk result (IsOwnIfAny old ((its_pipe pipe).get p).waiter → IsOwnIfAny new r.waiter)
      → OnOk result (OwnsChild old p → OwnsChild new ((its_pipe pipe).put r p))
  own_if_read pipe said_as r doing (Ok said) told keeps = λ own.
      own_with_pipe old new (told_keeps doing old new (r, said_as said) told) p ((its_pipe pipe).put r p) pipe r refl
      (keeps (own_of_pipe old p pipe own)) own
  own_if_read pipe said_as r doing (Err why) told keeps = tt
