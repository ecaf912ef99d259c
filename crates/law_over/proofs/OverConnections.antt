-- A connection that is over stays over.
use Rattle.std.proofs.Common.{◌≡◌, ℕ, ℤ, Bool, true, false, cond, not, ◌&&◌, ◌||◌, List, [], ◌∷◌, Option, Some, None, refl, is_none, is_some}
use Rattle.model_value.specs.declared.outcome.Outcome.TheVariants.{Failed}
use Rattle.model_value.specs.Value.{Exc}
use Rattle.model_wire.specs.declared.call.Call.TheVariants as call
use Rattle.model_wire.specs.declared.watch.Watch.{Watch}
use Rattle.model_wire.specs.declared.watch.Watch.TheVariants as watch
use Rattle.model_stream.specs.declared.answers.Drain.TheVariants as drain_as
use Rattle.model_stream.specs.declared.answers.Wrote.{Wrote}
use Rattle.model_stream.specs.declared.put.Limited.{Limited}
use Rattle.model_stream.specs.Connections.{Connection, close, down, drain_of, drop_connect, handler_done, its_receiver, its_sender, limits_of, lose}
use Rattle.model_stream.specs.Connections.{outlet, readable, reads, stand_up, start_read, up, writable, write_eof, write_to, connect_refused, unmade}
use Rattle.model_stream.specs.Doing.{Doing, Ends, Changes, Settle, asks, asked_on, on}
use Rattle.model_stream.specs.Receivers.{Receiver, receive_loss, takes_more}
use Rattle.model_stream.specs.Senders.{Sender, Drain, close_sender, drain_sender, has_unsent, is_closing, limits_sender, lose_sender, loss_of, write}
use Rattle.model_stream.specs.Watching.{entry_if, watched_connection}
use Rattle.law_over.specs.AllEnds.{AllEnds}
use Rattle.law_over.specs.Gone.{is_over, is_spent}
use Rattle.law_over.proofs.Along.{ends_any, ends_if, ends_into, ends_map, ends_then}
use Rattle.law_over.proofs.Spent.{Spent, SpentFirst, both, both_hold, clash, spent_close, spent_closing, spent_drain, spent_limits, spent_lose}
use Rattle.law_over.proofs.Spent.{spent_sent, spent_write}

abbrev pub Over : Connection → Type 0
Over c = is_over c ≡ true

abbrev pub OverFirst : {R : Type 0} → Connection × R → Type 0
OverFirst done = is_over done.0 ≡ true

-- one that closes reads no more
reads_none : (began closing more : Bool) → closing ≡ true → (began && not closing && more) ≡ true → ⊥
reads_none true true more closes e = let bad : ⊥ = cc in bad
reads_none true false more closes e = let bad : ⊥ = cc in bad
reads_none false closing more closes e = let bad : ⊥ = cc in bad

first_holds : (a b : Bool) → a ≡ true → (a || b) ≡ true
first_holds true b e = refl
first_holds false b e = absurd (let bad : ⊥ = cc in bad)

known_not : {A : Type 0} (it : Option A) → is_none it ≡ true → is_some it ≡ true → ⊥
known_not None e other = let bad : ⊥ = cc in bad
known_not (Some one) e other = let bad : ⊥ = cc in bad

module _ (id : ℕ) (c : Connection) (e : is_over c ≡ true) where
  made : is_none c.making ≡ true
  made = (both (is_none c.making) (is_spent c.sender) e).0

  spent : is_spent c.sender ≡ true
  spent = (both (is_none c.making) (is_spent c.sender) e).1

  abbrev with_sender : Sender → Connection
  with_sender s = record c { sender = s }

  over_with : (s : Sender) → is_spent s ≡ true → is_over (with_sender s) ≡ true
  over_with s is = both_hold (is_none c.making) (is_spent s) made is

  -- what its sender does
  on_sender : (change : Sender → Doing Sender) → AllEnds Spent (change c.sender) → AllEnds Over (on its_sender change c)
  on_sender change here =
      ends_into Over with_sender (change c.sender) (ends_map Spent (λ s. Over (with_sender s)) (change c.sender) over_with here)

  asked_on_sender : {R : Type 0} (change : Sender → Doing (Sender × R)) → AllEnds (SpentFirst {R = R}) (change c.sender)
      → AllEnds (OverFirst {R = R}) (asked_on its_sender change c)
  asked_on_sender {R} change here =
      ends_into {A = Sender × R} {B = Connection × R} OverFirst (λ done. (with_sender done.0, done.1)) (change c.sender)
      (ends_map SpentFirst (λ done. Over (with_sender done.0)) (change c.sender) (λ done is. over_with done.0 is) here)

  -- what its receiver does is no matter
  pub over_receives : (change : Receiver → Doing Receiver) → AllEnds Over (on its_receiver change c)
  over_receives change = ends_into Over (λ r. record c { receiver = r }) (change c.receiver) (ends_any _ (change c.receiver) (λ r. e))

  pub over_asked : {R : Type 0} (change : Receiver → Doing (Receiver × R)) → AllEnds (OverFirst {R = R}) (asked_on its_receiver change c)
  over_asked {R} change =
      ends_into {A = Receiver × R} {B = Connection × R} OverFirst (λ done. (record c { receiver = done.0 }, done.1)) (change c.receiver)
      (ends_any _ (change c.receiver) (λ done. e))

  -- ---- callbacks
  pub over_reads : AllEnds Over (readable id c)
  over_reads =
      ends_if Over (reads c) _ (Ends c)
      (λ more. absurd (reads_none c.began (is_closing c.sender) (takes_more c.receiver) (spent_closing c.sender spent) more)) (λ _. e)

  pub over_writes : AllEnds Over (writable id c)
  over_writes = ends_if Over (has_unsent c.sender) _ (Ends c) (λ some. clash (has_unsent c.sender) some (spent_sent c.sender spent)) (λ _. e)

  pub over_starts : Over (start_read c)
  over_starts = e

  pub over_up : AllEnds Over (up id c)
  over_up = by c.making made
    where
      by : (making : Option ℕ) → is_none making ≡ true → AllEnds Over (elim making [ Some on ↦ stand_up id on c | None ↦ Ends c ])
      by None is = e
      by (Some future) is = absurd (known_not (Some future) is refl)

  pub over_down : AllEnds Over (down id c)
  over_down = by c.making made
    where
      by : (making : Option ℕ) → is_none making ≡ true
          → AllEnds Over (elim making [
            | Some on ↦ Changes (Settle on (Failed connect_refused)) (asks (call.Close id) (Ends (unmade c)))
            | None ↦ Ends c
          ])
      by None is = e
      by (Some future) is = absurd (known_not (Some future) is refl)

  pub over_closes : AllEnds Over (close id c)
  over_closes = on_sender (close_sender (outlet id)) (spent_close c.sender spent (outlet id))

  pub over_handled : (returned : Bool) → AllEnds Over (handler_done id returned c)
  over_handled returned = ends_if Over returned (Ends c) (close id c) (λ _. e) (λ _. over_closes)

  -- ---- requests
  pub over_dropped : AllEnds Over (drop_connect id c)
  over_dropped = ends_if Over (is_some c.making) _ (close id c) (λ some. absurd (known_not c.making made some)) (λ _. over_closes)

  pub over_written : (piece : List ℕ) → AllEnds (OverFirst {R = Wrote}) (write_to id piece c)
  over_written piece = asked_on_sender (write (outlet id) piece) (spent_write c.sender spent (outlet id) piece)

  pub over_ends : AllEnds Over (write_eof id c)
  over_ends =
      ends_if Over (is_closing c.sender || c.sender.writer.eof) (Ends c) _ (λ _. e)
      (λ other. clash (is_closing c.sender || c.sender.writer.eof) (first_holds (is_closing c.sender) c.sender.writer.eof (spent_closing c.sender spent)) other)

  pub over_drains : (yielded : Bool) (next : ℕ) → AllEnds (OverFirst {R = Drain}) (drain_of yielded next c)
  over_drains yielded next = by c.receiver.reader.failed
    where
      drains : AllEnds (OverFirst {R = Drain}) (asked_on its_sender (drain_sender yielded next) c)
      drains = asked_on_sender (drain_sender yielded next) (spent_drain c.sender spent yielded next)

      by : (failed : Option Exc)
          → AllEnds (OverFirst {R = Drain})
          (elim failed [
            | None ↦ asked_on its_sender (drain_sender yielded next) c
            | Some fault ↦ cond yielded (asked_on its_sender (drain_sender yielded next) c) (Ends (c, drain_as.Raises fault))
          ])
      by None = drains
      by (Some fault) = ends_if (OverFirst {R = Drain}) yielded _ (Ends (c, drain_as.Raises fault)) (λ _. drains) (λ _. e)

  pub over_limits : (high low : Option ℤ) → AllEnds (OverFirst {R = Limited}) (limits_of high low c)
  over_limits high low = asked_on_sender (limits_sender high low) (spent_limits c.sender spent high low)

  -- ---- and is watched no more
  abbrev watched_by : Option ℕ → List Watch
  watched_by making = elim making [
    | Some on ↦ watch.Making id ∷ []
    | None ↦ entry_if (reads c || has_unsent c.sender) (watch.Conn id (reads c) (has_unsent c.sender))
  ]

  pub over_unwatched : watched_connection id (Some c) ≡ []
  over_unwatched = by c.making made
    where
      standing : (reading writing : Bool) → (reading ≡ true → ⊥) → writing ≡ false → entry_if (reading || writing) (watch.Conn id reading writing) ≡ []
      standing false false more none = refl
      standing true writing more none = absurd (more refl)
      standing false true more none = absurd (let bad : ⊥ = cc in bad)

      by : (making : Option ℕ) → is_none making ≡ true
          → watched_by making ≡ []
      by None is =
          standing (reads c) (has_unsent c.sender)
          (reads_none c.began (is_closing c.sender) (takes_more c.receiver) (spent_closing c.sender spent)) (spent_sent c.sender spent)
      by (Some future) is = absurd (known_not (Some future) is refl)

-- its loss, once more
pub over_loses : (id : ℕ) (broken : Bool) (c : Connection) → is_over c ≡ true → AllEnds Over (lose id broken c)
over_loses id broken c e =
    let lost = loss_of (outlet id) broken in
    ends_then Over (on its_receiver (receive_loss lost) c) (on its_sender (lose_sender (outlet id) broken))
    (ends_into _ (λ r. record c { receiver = r }) (receive_loss lost c.receiver)
    (ends_any _ (receive_loss lost c.receiver) (λ r.
    on_sender id (record c { receiver = r }) e (lose_sender (outlet id) broken) (spent_lose (outlet id) broken c.sender))))
