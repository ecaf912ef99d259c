-- What a connection's calls come to, by the tree.
use Rattle.std.proofs.Common.{◌≡◌, ℕ, Bool, true, false, not, ◌&&◌, ◌||◌, if◌then◌else◌, Option}
use Rattle.std.proofs.Common.{Some, None, Result, Ok, Err, is_some, refl, ap, subst}
use Rattle.model_value.specs.Value.{Conn as ConnValue, Exc}
use Rattle.model_value.specs.declared.action.Action.TheVariants.{Made, StartRead}
use Rattle.model_value.specs.declared.outcome.Outcome.TheVariants.{Value as Returned, Failed}
use Rattle.model_wire.specs.declared.call.Call.TheVariants as call
use Rattle.model_wire.specs.Call.{Call}
use Rattle.model_stream.specs.declared.answers.Drain.TheVariants as drain_as
use Rattle.model_stream.specs.Connections.{Connection, its_receiver, its_sender, outlet, reads, received, readable, lose, flushed, writable, stand_up, up}
use Rattle.model_stream.specs.Connections.{unmade, connect_refused, down, close, handler_done, drop_connect, write_eof, drain_of}
use Rattle.model_stream.specs.Doing.{Doing, Ends, Changes, Asks, CallSoon, Settle, and_then, asks, asked_on, on}
use Rattle.model_stream.specs.Receivers.{receive_loss}
use Rattle.model_stream.specs.Senders.{Drain, drain_sender, has_unsent, is_closing, is_flushed, loss_of, lose_sender, send_more, with_writer}
use Rattle.model_stream.specs.Sending.{set_eof}
use Rattle.aio_wire.specs.Outside.{Outside}
use Rattle.aio_wire.specs.declared.stop.Stop.{Stop}
use Rattle.aio_exchange.specs.Follows.{Follows, Reach}
use Rattle.aio_exchange.specs.Tells.{Tells}
use Rattle.aio_exchange.proofs.Following.{follows_changed, follows_end, follows_ends, follows_stopped, follows_then, follows_unless, follows_where}
use Rattle.aio_exchange.proofs.Telling.{tells_changed, tells_end, tells_ends, tells_follow, tells_unless, tells_where}
use Rattle.aio_task.specs.View.{View}
use Rattle.aio_change.specs.Seen.{seen_changed}

open_still : (began closing eof paused : Bool) → (began && not closing && (not eof && not paused)) ≡ true → eof ≡ false
open_still began closing false paused e = refl
open_still true false true paused e = absurd (let bad : ⊥ = cc in bad)
open_still true true true paused e = absurd (let bad : ⊥ = cc in bad)
open_still false closing true paused e = absurd (let bad : ⊥ = cc in bad)

-- one that reads hasn't ended
pub reads_open : (c : Connection) → reads c ≡ true → c.receiver.reader.eof ≡ false
reads_open c e = open_still c.began (is_closing c.sender) c.receiver.reader.eof c.receiver.reader.paused e

-- ---- what asks nothing
module _ (id : ℕ) (c : Connection) where
  -- it stands
  pub stands_up : (on : ℕ) (after : Connection) (first second old new : View) → first ≡ seen_changed (CallSoon (Made id)) old
      → second ≡ seen_changed (CallSoon (StartRead id)) first → new ≡ seen_changed (Settle on (Returned (ConnValue id))) second
      → after ≡ record c { making = None } → Tells seen_changed (stand_up id on c) old new after
  stands_up on after first second old new a b d is =
      let end : Doing Connection = Ends (record c { making = None }) in
      let settled : Doing Connection = Changes (Settle on (Returned (ConnValue id))) end in
      tells_changed seen_changed (CallSoon (Made id)) (Changes (CallSoon (StartRead id)) settled) old first new after a
      (tells_changed seen_changed (CallSoon (StartRead id)) settled first second new after b
      (tells_changed seen_changed (Settle on (Returned (ConnValue id))) end second new new after d
      (tells_end seen_changed (record c { making = None }) after new is)))

  abbrev ups_by : Option ℕ → Doing Connection
  ups_by making = elim making [ Some on ↦ stand_up id on c | None ↦ Ends c ]

  pub up_before : (at : View) → None ≡ c.making → Tells seen_changed (up id c) at at c
  up_before at is = subst (λ making. Tells seen_changed (ups_by making) at at c) is (tells_ends seen_changed c at)

  pub up_now : (on : ℕ) (after : Connection) (old new : View) → Some on ≡ c.making → Tells seen_changed (stand_up id on c) old new after
      → Tells seen_changed (up id c) old new after
  up_now on after old new is told = subst (λ making. Tells seen_changed (ups_by making) old new after) is told

  -- a handler that is done
  pub handler_fine : (returned : Bool) (at : View) → returned ≡ true → Tells seen_changed (handler_done id returned c) at at c
  handler_fine returned at e = tells_where seen_changed returned (Ends c) (close id c) at at c e (tells_ends seen_changed c at)

  pub handler_failed : (returned : Bool) (after : Connection) (old new : View) → returned ≡ false → Tells seen_changed (close id c) old new after
      → Tells seen_changed (handler_done id returned c) old new after
  handler_failed returned after old new e told = tells_unless seen_changed returned (Ends c) (close id c) old new after e told

-- ---- a drain
module _ (yielded : Bool) (next : ℕ) (c : Connection) where
  abbrev drains : Doing (Connection × Drain)
  drains = asked_on its_sender (drain_sender yielded next) c

  abbrev drains_by : Option Exc → Doing (Connection × Drain)
  drains_by failed = elim failed [ None ↦ drains | Some fault ↦ if yielded then drains else Ends (c, drain_as.Raises fault) ]

  pub drain_yielded : (old new : View) (result : Connection × Drain) → yielded ≡ true → Tells seen_changed drains old new result
      → Tells seen_changed (drain_of yielded next c) old new result
  drain_yielded old new result e told = at c.receiver.reader.failed
    where
      at : (failed : Option Exc) → Tells seen_changed (drains_by failed) old new result
      at None = told
      at (Some fault) = tells_where seen_changed yielded drains (Ends (c, drain_as.Raises fault)) old new result e told

  pub drain_whole : (old new : View) (result : Connection × Drain) → None ≡ c.receiver.reader.failed → Tells seen_changed drains old new result
      → Tells seen_changed (drain_of yielded next c) old new result
  drain_whole old new result is told = subst (λ failed. Tells seen_changed (drains_by failed) old new result) is told

  pub drain_failed : (fault : Exc) (at : View) (result : Connection × Drain) → yielded ≡ false → Some fault ≡ c.receiver.reader.failed
      → result ≡ (c, drain_as.Raises fault) → Tells seen_changed (drain_of yielded next c) at at result
  drain_failed fault at result e is same =
      subst (λ failed. Tells seen_changed (drains_by failed) at at result) is
      (tells_unless seen_changed yielded drains (Ends (c, drain_as.Raises fault)) at at result e
      (tells_end seen_changed (c, drain_as.Raises fault) result at same))

-- ---- what asks
module _ {W : Type 0} (o : Outside W) (id : ℕ) (c : Connection) where
  -- ---- `readable`
  pub reads_no_more : (at : Reach View W) → reads c ≡ false → Follows o seen_changed (readable id c) at at (Ok c)
  reads_no_more at off =
      follows_unless o seen_changed (reads c) (Asks (call.Recv id) (received id c)) (Ends c) at at (Ok c) off (follows_ends o seen_changed c at)

  pub reads_so : (old new : Reach View W) (result : Result Connection Stop) → reads c ≡ true
      → Follows o seen_changed (Asks (call.Recv id) (received id c)) old new result → Follows o seen_changed (readable id c) old new result
  reads_so old new result on f = follows_where o seen_changed (reads c) (Asks (call.Recv id) (received id c)) (Ends c) old new result on f

  -- ---- `lost`
  pub loses : (broken : Bool) (loss : Option Exc) (between : Connection) (old mid new : Reach View W) (result : Result Connection Stop)
      → loss ≡ loss_of (outlet id) broken → Tells seen_changed (on its_receiver (receive_loss loss) c) old.parts mid.parts between → mid.port ≡ old.port
      → Follows o seen_changed (on its_sender (lose_sender (outlet id) broken) between) mid new result
      → Follows o seen_changed (lose id broken c) old new result
  loses broken loss between old mid new result is told port f =
      follows_then o seen_changed (on its_receiver (receive_loss (loss_of (outlet id) broken)) c) (on its_sender (lose_sender (outlet id) broken))
      between old mid new result
      (tells_follow seen_changed o (on its_receiver (receive_loss (loss_of (outlet id) broken)) c) old mid between
      (subst (λ it. Tells seen_changed (on its_receiver (receive_loss it) c) old.parts mid.parts between) is told) port) f

  -- ---- what follows where all was sent
  abbrev passes_on : Doing Connection
  passes_on = if c.sender.writer.eof then asks (call.Shut id) (Ends c) else Ends c

  abbrev flushes : Doing Connection
  flushes = if is_closing c.sender then lose id false c else passes_on

  pub not_flushed : (at : Reach View W) → is_flushed c.sender ≡ false → Follows o seen_changed (flushed id c) at at (Ok c)
  not_flushed at e = follows_where o seen_changed (not (is_flushed c.sender)) (Ends c) flushes at at
      (Ok c) (ap not e) (follows_ends o seen_changed c at)

  is_flushed_so : (old new : Reach View W) (result : Result Connection Stop) → is_flushed c.sender ≡ true
      → Follows o seen_changed flushes old new result → Follows o seen_changed (flushed id c) old new result
  is_flushed_so old new result e f = follows_unless o seen_changed (not (is_flushed c.sender)) (Ends c) flushes old new result (ap not e) f

  pub flushed_loses : (old new : Reach View W) (result : Result Connection Stop) → is_flushed c.sender ≡ true → is_closing c.sender ≡ true
      → Follows o seen_changed (lose id false c) old new result → Follows o seen_changed (flushed id c) old new result
  flushed_loses old new result e closing f =
      is_flushed_so old new result e (follows_where o seen_changed (is_closing c.sender) (lose id false c) passes_on old new result closing f)

  pub flushed_on : (at : Reach View W) → is_flushed c.sender ≡ true → is_closing c.sender ≡ false → c.sender.writer.eof ≡ false
      → Follows o seen_changed (flushed id c) at at (Ok c)
  flushed_on at e going none =
      is_flushed_so at at (Ok c) e
      (follows_unless o seen_changed (is_closing c.sender) (lose id false c) passes_on at at (Ok c) going
      (follows_unless o seen_changed c.sender.writer.eof (asks (call.Shut id) (Ends c)) (Ends c) at at
      (Ok c) none (follows_ends o seen_changed c at)))

  pub flushed_shuts : (old new : Reach View W) (result : Result Connection Stop) → is_flushed c.sender ≡ true → is_closing c.sender ≡ false
      → c.sender.writer.eof ≡ true → Follows o seen_changed (Asks (call.Shut id) (λ came. Ends c)) old new result
      → Follows o seen_changed (flushed id c) old new result
  flushed_shuts old new result e going ended f =
      is_flushed_so old new result e
      (follows_unless o seen_changed (is_closing c.sender) (lose id false c) passes_on old new result going
      (follows_where o seen_changed c.sender.writer.eof (asks (call.Shut id) (Ends c)) (Ends c) old new result ended f))

  -- ---- `writable`
  abbrev sends_more : Doing Connection
  sends_more = on its_sender (send_more (outlet id)) c

  pub nothing_unsent : (at : Reach View W) → has_unsent c.sender ≡ false → Follows o seen_changed (writable id c) at at (Ok c)
  nothing_unsent at e =
      follows_unless o seen_changed (has_unsent c.sender) (and_then sends_more (flushed id))
      (Ends c) at at (Ok c) e (follows_ends o seen_changed c at)

  pub sends_then : (between : Connection) (old mid new : Reach View W) (result : Result Connection Stop) → has_unsent c.sender ≡ true
      → Follows o seen_changed sends_more old mid (Ok between) → Follows o seen_changed (flushed id between) mid new result
      → Follows o seen_changed (writable id c) old new result
  sends_then between old mid new result e f h =
      follows_where o seen_changed (has_unsent c.sender) (and_then sends_more (flushed id)) (Ends c) old new result e
      (follows_then o seen_changed sends_more (flushed id) between old mid new result f h)

  pub sends_stopped : (why : Stop) (old new : Reach View W) → has_unsent c.sender ≡ true → Follows o seen_changed sends_more old new (Err why)
      → Follows o seen_changed (writable id c) old new (Err why)
  sends_stopped why old new e f =
      follows_where o seen_changed (has_unsent c.sender) (and_then sends_more (flushed id)) (Ends c) old new (Err why) e
      (follows_stopped o seen_changed sends_more (flushed id) why old new f)

  -- ---- `down`
  abbrev downs_by : Option ℕ → Doing Connection
  downs_by making = elim making [
    | Some on ↦ Changes (Settle on (Failed connect_refused)) (asks (call.Close id) (Ends (unmade c)))
    | None ↦ Ends c
  ]

  pub down_before : (at : Reach View W) → None ≡ c.making → Follows o seen_changed (down id c) at at (Ok c)
  down_before at is = subst (λ making. Follows o seen_changed (downs_by making) at at (Ok c)) is (follows_ends o seen_changed c at)

  pub down_now : (on : ℕ) (old mid new : Reach View W) (result : Result Connection Stop) → Some on ≡ c.making
      → mid.parts ≡ seen_changed (Settle on (Failed connect_refused)) old.parts → mid.port ≡ old.port
      → Follows o seen_changed (Asks (call.Close id) (λ came. Ends (unmade c))) mid new result
      → Follows o seen_changed (down id c) old new result
  down_now on old mid new result is parts port f =
      subst (λ making. Follows o seen_changed (downs_by making) old new result) is
      (follows_changed o seen_changed (Settle on (Failed connect_refused)) (asks (call.Close id) (Ends (unmade c))) old mid new result parts port f)

  -- ---- a connect that is dropped
  pub drops : (old new : Reach View W) (result : Result Connection Stop) → is_some c.making ≡ true
      → Follows o seen_changed (Asks (call.Close id) (λ came. Ends (unmade c))) old new result
      → Follows o seen_changed (drop_connect id c) old new result
  drops old new result some f =
      follows_where o seen_changed (is_some c.making) (asks (call.Close id) (Ends (unmade c))) (close id c) old new result some f

  pub drop_closes : (old new : Reach View W) (result : Result Connection Stop) → is_some c.making ≡ false
      → Follows o seen_changed (close id c) old new result → Follows o seen_changed (drop_connect id c) old new result
  drop_closes old new result none f =
      follows_unless o seen_changed (is_some c.making) (asks (call.Close id) (Ends (unmade c))) (close id c) old new result none f

  -- ---- `write_eof`
  abbrev pub with_eof : Connection
  with_eof = record c { sender = with_writer (set_eof c.sender.writer) c.sender }

  abbrev writes_end : Doing Connection
  writes_end = if has_unsent c.sender then Ends with_eof else asks (call.Shut id) (Ends with_eof)

  pub end_before : (at : Reach View W) → (is_closing c.sender || c.sender.writer.eof) ≡ true → Follows o seen_changed (write_eof id c) at at (Ok c)
  end_before at e =
      follows_where o seen_changed (is_closing c.sender || c.sender.writer.eof) (Ends c) writes_end at at (Ok c) e (follows_ends o seen_changed c at)

  pub end_later : (after : Connection) (at : Reach View W) → (is_closing c.sender || c.sender.writer.eof) ≡ false → has_unsent c.sender ≡ true
      → after ≡ with_eof → Follows o seen_changed (write_eof id c) at at (Ok after)
  end_later after at e unsent is =
      follows_unless o seen_changed (is_closing c.sender || c.sender.writer.eof) (Ends c) writes_end at at (Ok after) e
      (follows_where o seen_changed (has_unsent c.sender) (Ends with_eof) (asks (call.Shut id) (Ends with_eof)) at at (Ok after) unsent
      (follows_end o seen_changed with_eof after at is))

  pub end_now : (old new : Reach View W) (result : Result Connection Stop) → (is_closing c.sender || c.sender.writer.eof) ≡ false
      → has_unsent c.sender ≡ false → Follows o seen_changed (Asks (call.Shut id) (λ came. Ends with_eof)) old new result
      → Follows o seen_changed (write_eof id c) old new result
  end_now old new result e none f =
      follows_unless o seen_changed (is_closing c.sender || c.sender.writer.eof) (Ends c) writes_end old new result e
      (follows_unless o seen_changed (has_unsent c.sender) (Ends with_eof) (asks (call.Shut id) (Ends with_eof)) old new result none f)
