-- What a sender's calls come to that ask, by the tree.
use Rattle.std.proofs.Common.{◌≡◌, ℕ, ◌≤◌, Bool, true, List, [], Result, Ok, Err, length, sym, ap, subst}
use Rattle.model_wire.specs.declared.answer.Answer.TheVariants as answer
use Rattle.model_wire.specs.declared.event.Handed.{Handed}
use Rattle.model_wire.specs.Call.{Call, Answer}
use Rattle.model_wire.specs.Event.{handed_by}
use Rattle.model_wire.specs.Fits.{fits}
use Rattle.model_stream.specs.declared.answers.Wrote.{Wrote}
use Rattle.model_stream.specs.declared.answers.Wrote.TheVariants as wrote
use Rattle.model_stream.specs.declared.put.Put.{Put}
use Rattle.model_stream.specs.declared.put.Put.TheVariants as put_as
use Rattle.model_stream.specs.declared.phase.Phase.TheVariants as phase
use Rattle.model_stream.specs.Answers.{sent_by}
use Rattle.model_stream.specs.Doing.{Ends, Asks}
use Rattle.model_stream.specs.Senders.{Sender, Outlet, with_writer, ended_sender, lose_sender, loss_of, outcome_of, waiting_for_loss, write, write_as}
use Rattle.model_stream.specs.Sending.{put, put_answer}
use Rattle.aio_wire.specs.Outside.{Outside}
use Rattle.aio_wire.specs.Port.{Ported}
use Rattle.aio_wire.specs.declared.stop.Stop.{Stop}
use Rattle.aio_exchange.specs.Exchanged.{AsksOne}
use Rattle.aio_exchange.specs.Follows.{Follows, Reach}
use Rattle.aio_exchange.specs.Ways.{changed_on}
use Rattle.aio_exchange.proofs.Following.{follows_end, follows_ends, follows_stopped, follows_then}
use Rattle.law_stream.specs.SoundSenders.{outlet_of}
use Rattle.law_stream.proofs.SoundSenders.{IsSent, is_sent}
use Rattle.aio_task.specs.View.{View}
use Rattle.aio_change.specs.Owned.{settled_way}
use Rattle.aio_change.specs.Seen.{seen_changed}
use Rattle.aio_change.proofs.AfterAsking.{asks_met, asks_on}
use Rattle.aio_change.proofs.InOrder.{follows_settles}
use Rattle.aio_sender.specs.Offers.{offers}

-- no more is taken of an offer than it has
pub within_offer : {W : Type 0} (o : Outside W) (whom : Handed) (bytes : List ℕ) (asked : Call) (came : Answer) (old new : Ported W) (count : ℕ)
    → asked ≡ (outlet_of whom).sends bytes → AsksOne o asked old new (Ok came) → came ≡ answer.Took count → count ≤ length bytes
within_offer o whom bytes asked came old new count same one is =
    let fit : fits ((outlet_of whom).sends bytes) came ≡ true = subst (λ it. fits it came ≡ true) same one.fit.0 in
    (subst (λ it. IsSent bytes (handed_by whom ((outlet_of whom).sends bytes) it) (sent_by it)) is (is_sent whom bytes came fit)).0

module _ {W : Type 0} (o : Outside W) (to : Outlet) (s : Sender) where
  -- ---- a write
  module _ (piece : List ℕ) where
    abbrev put_to : Sender
    put_to = with_writer (put piece s.writer) s

    as_put : (it : Put) (old new : Reach View W) (result : Result (Sender × Wrote) Stop) → it ≡ put_answer piece s.writer
        → Follows o seen_changed (write_as it to put_to) old new result → Follows o seen_changed (write to piece s) old new result
    as_put it old new result e f = subst (λ p. Follows o seen_changed (write_as p to put_to) old new result) e f

    -- nothing is asked
    pub wrote_at_once : (it : Put) (said : Wrote) (after : Sender) (at : Reach View W) → it ≡ put_answer piece s.writer
        → write_as it to put_to ≡ Ends (put_to, said) → after ≡ put_to → Follows o seen_changed (write to piece s) at at (Ok (after, said))
    wrote_at_once it said after at e tree is =
        as_put it at at (Ok (after, said)) e
        (subst (λ d. Follows o seen_changed d at at (Ok (after, said))) (sym tree)
        (follows_end o seen_changed (put_to, said) (after, said) at (ap (λ a. (a, said)) is)))

    -- it is offered
    pub wrote_offered : (before after : Sender) (old new : Reach View W) → put_as.Offer ≡ put_answer piece s.writer → before ≡ put_to
        → Follows o seen_changed (offers to before) old new (Ok after) → Follows o seen_changed (write to piece s) old new (Ok (after, wrote.Done))
    wrote_offered before after old new e same f =
        as_put put_as.Offer old new (Ok (after, wrote.Done)) e
        (follows_then o seen_changed (offers to put_to) (λ s. Ends (s, wrote.Done)) after old new new (Ok (after, wrote.Done))
        (subst (λ b. Follows o seen_changed (offers to b) old new (Ok after)) same f) (follows_ends o seen_changed (after, wrote.Done) new))

    pub write_stopped : (before : Sender) (why : Stop) (old new : Reach View W) → put_as.Offer ≡ put_answer piece s.writer → before ≡ put_to
        → Follows o seen_changed (offers to before) old new (Err why) → Follows o seen_changed (write to piece s) old new (Err why)
    write_stopped before why old new e same f =
        as_put put_as.Offer old new (Err why) e
        (follows_stopped o seen_changed (offers to put_to) (λ s. Ends (s, wrote.Done)) why old new
        (subst (λ b. Follows o seen_changed (offers to b) old new (Err why)) same f))

  -- ---- the loss is done
  module _ (broken : Bool) (asked : Call) (same : asked ≡ to.closes) (old mid : Reach View W)
      (parts : mid.parts ≡ changed_on seen_changed (settled_way (outcome_of (loss_of to broken)) (waiting_for_loss s)) old.parts)
      (port : mid.port ≡ old.port) where
    abbrev lost : Sender
    lost = record (ended_sender (phase.Lost broken) s) { drains = [] }

    loses_on : (new : Reach View W) (result : Result Sender Stop) → Follows o seen_changed (Asks to.closes (λ came. Ends lost)) mid new result
        → Follows o seen_changed (lose_sender to broken s) old new result
    loses_on new result f =
        follows_settles o (waiting_for_loss s) (outcome_of (loss_of to broken)) (Asks to.closes (λ came. Ends lost)) old mid new result parts port f

    pub loses_so : (came : Answer) (after : Sender) (new : Reach View W) → AsksOne o asked mid.port new.port (Ok came) → new.parts ≡ mid.parts
        → after ≡ lost → Follows o seen_changed (lose_sender to broken s) old new (Ok after)
    loses_so came after new one kept is =
        loses_on new (Ok after)
        (asks_on o asked to.closes (λ came. Ends lost) same came mid new new (Ok after) one kept (follows_end o seen_changed lost after new is))

    pub loses_met : (why : Stop) (new : Reach View W) → AsksOne o asked mid.port new.port (Err why) → new.parts ≡ mid.parts
        → Follows o seen_changed (lose_sender to broken s) old new (Err why)
    loses_met why new one kept = loses_on new (Err why) (asks_met o asked to.closes (λ came. Ends lost) same why mid new one kept)
