-- What a connection, and a child, does keeps the order of its own sending side.
use Rattle.std.proofs.Common.{◌≡◌, inr, ℕ, ◌+◌, ◌≤◌, Bool, true, false, cond, List, [], ◌∷◌, ◌++◌, Option, Some, None, refl, sym, ap, ◌∙◌, arith}
use Rattle.std.proofs.lemmas.List.{append-nil}
use Rattle.std.specs.Prelude.{is_some}
use Rattle.model_pump.specs.declared.stream.Stream.{Stream}
use Rattle.model_pump.specs.declared.stream.Stream.TheVariants as stream
use Rattle.model_value.specs.declared.action.ChildItem.{ChildItem}
use Rattle.model_value.specs.declared.action.ChildItem.TheVariants.{Broken, Out, OutEnd, Errs, ErrsEnd, Exit}
use Rattle.model_value.specs.declared.outcome.Outcome.TheVariants.{Failed}
use Rattle.model_wire.specs.declared.call.Call.TheVariants as call
use Rattle.model_wire.specs.declared.event.Handed.{Handed}
use Rattle.model_wire.specs.declared.event.Handed.TheVariants as to
use Rattle.model_stream.specs.declared.answers.Wrote.{Wrote}
use Rattle.model_stream.specs.declared.phase.Phase.TheVariants as phase
use Rattle.model_stream.specs.declared.put.Put.TheVariants.{Offer, Kept, Empty, AfterEof, Dropped}
use Rattle.model_stream.specs.Children.{Child, break_stdin, close_child, inlet, its_pipe, its_stdin, lose_child, tell_child, write_child}
use Rattle.model_stream.specs.Connections.{Connection, outlet, its_receiver, its_sender, start_read, lose, up, down, stand_up, unmade}
use Rattle.model_stream.specs.Connections.{close, drop_connect, connect_refused, handler_done, write_to}
use Rattle.model_stream.specs.Doing.{Doing, Ends, Changes, Asks, MakeFuture, Settle, CallSoon, and_then, asks, asked_on, on}
use Rattle.model_stream.specs.Receivers.{Receiver, receive_loss}
use Rattle.model_stream.specs.Senders.{Sender, close_sender, ended_sender, has_unsent, is_closing, lose_sender, loss_of, outcome_of, schedule_loss}
use Rattle.model_stream.specs.Senders.{waiting_for_loss}
use Rattle.model_stream.specs.Sending.{Writer, is_nothing, put_answer, written_of}
use Rattle.law_stream.specs.SoundSenders.{IsSoundSender, KeepsSender, outlet_of}
use Rattle.law_stream.specs.Ways.{Move, Did, Heard, Always, closes, handed_in, is_close, is_loss, losses, one_if}
use Rattle.law_stream.proofs.Along.{always_if, always_into, always_map, always_then, always_told}
use Rattle.law_stream.proofs.SoundSenders.{closes_counts, closes_hands, ended_sound, is_open, make_quiet, nothing_by, settle_quiet}
use Rattle.law_stream.proofs.SoundSends.{lose_keeps}
use Rattle.law_stream.specs.ChildSteps as children
use Rattle.law_stream.proofs.ChildOrder as child_order
use Rattle.law_stream.proofs.Quiet.{AllQuiet, quiet_step}
use Rattle.law_stream.specs.SoundReceivers as receivers
use Rattle.law_stream.proofs.SoundConnections.{conn_closes, conn_writes}
use Rattle.law_order.specs.Frames.{IsApart}
use Rattle.law_order.specs.Mild.{IsMild, good_losses, is_good_loss}
use Rattle.law_order.proofs.Framing.{apart_did, apart_start, none_and}
use Rattle.law_order.proofs.Mildly.{child_write_mild, mild_along, mild_into, settle_mild, tell_mild, write_to_mild}
use Rattle.law_order.specs.Fronts.{Continues, IsFront, IsGood, IsLoss, KeepsFrontBy, Loses, MayGiveUp, Way}
use Rattle.law_order.proofs.Fronts.{front_after, front_as, front_of, front_still, none_good, none_handed, over_front}

-- ---- what makes and settles futures alone
pub quiet_hands : {A : Type 0} (whom : Handed) (doing : Doing A) → AllQuiet doing → Always (λ moves result. IsApart whom moves) doing
quiet_hands whom (Ends result) quiet = apart_start whom
quiet_hands whom (Changes MakeFuture rest) quiet =
    always_map (λ moves result. IsApart whom moves) (λ moves result. IsApart whom (Did MakeFuture ∷ moves)) rest
    (λ moves result it. apart_did whom MakeFuture moves (make_quiet whom) it) (quiet_hands whom rest quiet)
quiet_hands whom (Changes (Settle future outcome) rest) quiet =
    always_map (λ moves result. IsApart whom moves) (λ moves result. IsApart whom (Did (Settle future outcome) ∷ moves)) rest
    (λ moves result it. apart_did whom (Settle future outcome) moves (settle_quiet whom future outcome) it) (quiet_hands whom rest quiet)
quiet_hands whom (Changes (CallSoon action) rest) quiet = absurd quiet
quiet_hands whom (Asks call rest) quiet = absurd quiet

always_both : {A : Type 0} (P Q : List Move → A → Type 0) (doing : Doing A) → Always P doing → Always Q doing
    → Always (λ moves result. P moves result × Q moves result) doing
always_both P Q (Ends result) p q = (p, q)
always_both P Q (Changes change rest) p q = always_both (λ moves. P (Did change ∷ moves)) (λ moves. Q (Did change ∷ moves)) rest p q
always_both P Q (Asks call rest) p q =
    λ answer fit. always_both (λ moves. P (Heard call answer ∷ moves)) (λ moves. Q (Heard call answer ∷ moves)) (rest answer) (p answer fit) (q answer fit)

at_most_one : (b : Bool) → one_if b ≤ 1
at_most_one true = omega arith
at_most_one false = omega arith

-- where it is over then, and no loss was scheduled
once_over : (before after : Bool) (scheduled : ℕ) → after ≡ true → scheduled ≡ 0 → one_if before + scheduled ≤ one_if after
once_over before after scheduled over none = let a = at_most_one before in let b = ap one_if over in omega (arith, a, b, none)

-- the other way than into what an answer is left out of
pub always_back : {A B : Type 0} (Holds : List Move → B → Type 0) (into : A → B) (doing : Doing A)
    → Always Holds (and_then doing (λ result. Ends (into result))) → Always (λ moves result. Holds moves (into result)) doing
always_back Holds into (Ends result) here = here
always_back Holds into (Changes change rest) here = always_back (λ moves. Holds (Did change ∷ moves)) into rest here
always_back Holds into (Asks call rest) here = λ answer fit. always_back (λ moves. Holds (Heard call answer ∷ moves)) into (rest answer) (here answer fit)

-- ---- losses without an exception
-- what schedules none
pub mild_good : {A : Type 0} (whom : Handed) (piece : List ℕ) (s : Sender) (doing : Doing A) → IsMild doing
    → Always (λ moves result. IsGood whom piece s moves) doing
mild_good whom piece s doing mild =
    always_map (λ moves result. good_losses whom moves ≡ 0) (λ moves result. IsGood whom piece s moves) doing
    (λ moves result none. none_good whom piece s moves none) (mild_along whom doing mild)

-- where nothing is unsent, all was handed on
all_handed : (written handed : List ℕ) (s : Sender) → IsFront written handed s → s.writer.ended ≡ false → s.writer.unsent ≡ [] → written ++ [] ≡ handed ++ []
all_handed written handed s front live none =
    append-nil written ∙ front.front ∙ ap (λ bytes. handed ++ bytes) (sym (front.unsent live) ∙ none)

close_good : (whom : Handed) (s : Sender) → IsSoundSender s → Always (λ moves after. IsGood whom [] s moves) (close_sender (outlet_of whom) s)
close_good whom s sound =
    let Good = λ (moves : List Move) (after : Sender). IsGood whom [] s moves in
    always_if Good (is_closing s) (Ends s)
    (cond (has_unsent s) (Ends (record s { phase = phase.Closing })) (schedule_loss (outlet_of whom) false s))
    (λ _. none_good whom [] s [] refl)
    (λ is.
    always_if Good (has_unsent s) (Ends (record s { phase = phase.Closing })) (schedule_loss (outlet_of whom) false s)
    (λ _. none_good whom [] s [] refl)
    (λ none some written handed front.
    all_handed written handed s front (sound.over ∙ (is_open s is).over) (nothing_by s.writer.unsent none)))

-- what is written once a loss is scheduled is dropped
dropped : (piece : List ℕ) (w : Writer) → w.ended ≡ true → written_of (put_answer piece w) piece ≡ []
dropped piece w over = by w.eof (is_nothing piece) w.ended over
  where
    by : (eof none ended : Bool) → ended ≡ true
        → written_of (cond eof AfterEof (cond none Empty (cond ended Dropped (cond (is_nothing w.unsent) Offer Kept)))) piece ≡ []
    by true none ended is = refl
    by false true ended is = refl
    by false false true is = refl
    by false false false is = absurd (let bad : ⊥ = cc in bad)

-- what it was doesn't matter to a loss: it is over then
one_close : (whom : Handed) → one_if (is_close whom (outlet_of whom).closes) + 0 ≡ 1
one_close whom = rw (closes_counts whom) (omega arith)

loss_done : (whom : Handed) (broken : Bool) (s : Sender)
    → Always (λ moves after. IsLoss whom broken moves after × (good_losses whom moves ≡ 0)) (lose_sender (outlet_of whom) broken s)
loss_done whom broken s =
    always_told (λ moves (after : Sender). IsLoss whom broken moves after × (good_losses whom moves ≡ 0)) (waiting_for_loss s)
    (outcome_of (loss_of (outlet_of whom) broken))
    (asks (outlet_of whom).closes (Ends (record (ended_sender (phase.Lost broken) s) { drains = [] })))
    (λ future moves after it. (
      record {
        lost = it.0.lost;
        losses = none_and (losses whom moves) (is_loss whom (Settle future _)) (settle_quiet whom future _) it.0.losses;
        closes = it.0.closes;
      },
      none_and (good_losses whom moves) (is_good_loss whom (Settle future _)) (settle_mild whom future _) it.1,
    ))
    (λ came fit. (record { lost = refl; losses = refl; closes = one_close whom }, refl))

loss_front : (whom : Handed) (broken : Bool) (s : Sender) → IsSoundSender s
    → Always (KeepsFrontBy (Loses whom broken) whom [] s) (lose_sender (outlet_of whom) broken s)
loss_front whom broken s sound =
    let over = ended_sender (phase.Losing broken) s in
    let Done = λ (moves : List Move) (after : Sender). IsLoss whom broken moves after × (good_losses whom moves ≡ 0) in
    always_map (λ moves after. KeepsSender whom 1 [] over moves after × Done moves after) (KeepsFrontBy (Loses whom broken) whom [] s)
    (lose_sender (outlet_of whom) broken s)
    (λ moves after it. record {
      sound = it.0.sound;
      order = over_front whom [] s moves after (none_handed whom moves (it.0.offers refl)) (it.0.stays refl);
      stays = λ is. it.0.stays refl;
      silent = λ is. none_handed whom moves (it.0.offers refl);
      mute = λ is. refl;
      once = once_over s.writer.ended after.writer.ended (losses whom moves) (it.0.stays refl) it.1.0.losses;
      good = none_good whom [] s moves it.1.1;
      closed = λ some. it.0.stays refl;
      ends = inr (refl, it.1.0);
    })
    (always_both (KeepsSender whom 1 [] over) Done (lose_sender (outlet_of whom) broken s)
    (lose_keeps whom 1 broken over (ended_sound s (phase.Losing broken) refl sound)
    (record { not_lost = refl; pending = refl; nothing = refl; whole = λ is. is }))
    (loss_done whom broken s))

module _ (id : ℕ) where
  abbrev pub Keeps : (way : Way) (piece : List ℕ) → Sender → List Move → Connection → Type 0
  Keeps way piece s moves after = KeepsFrontBy way (to.Conn id) piece s moves after.sender

  still : (c : Connection) → IsSoundSender c.sender → KeepsFrontBy Continues (to.Conn id) [] c.sender [] c.sender
  still c sound = front_still (to.Conn id) c.sender [] sound (apart_start (to.Conn id))

  -- whatever keeps its sender
  pub conn_front : {A : Type 0} (get : A → Sender) (piece : List ℕ) (c : Connection) (doing : Doing A) → IsSoundSender c.sender
      → (c.sender.writer.ended ≡ true → piece ≡ []) → Always (λ moves result. IsGood (to.Conn id) piece c.sender moves) doing
      → Always (λ moves result. KeepsSender (to.Conn id) 0 piece c.sender moves (get result)) doing
      → Always (λ moves result. KeepsFrontBy Continues (to.Conn id) piece c.sender moves (get result)) doing
  conn_front get piece c doing sound mute good here =
      always_map (λ moves result. KeepsSender (to.Conn id) 0 piece c.sender moves (get result) × IsGood (to.Conn id) piece c.sender moves)
      (λ moves result. KeepsFrontBy Continues (to.Conn id) piece c.sender moves (get result)) doing
      (λ moves result it. front_of (to.Conn id) 0 piece c.sender moves (get result) sound refl mute it.1 it.0)
      (always_both (λ moves result. KeepsSender (to.Conn id) 0 piece c.sender moves (get result))
      (λ moves result. IsGood (to.Conn id) piece c.sender moves) doing here good)

  -- what writes nothing, and schedules no loss without an exception
  pub conn_mild : {A : Type 0} (get : A → Sender) (c : Connection) (doing : Doing A) → IsSoundSender c.sender → IsMild doing
      → Always (λ moves result. KeepsSender (to.Conn id) 0 [] c.sender moves (get result)) doing
      → Always (λ moves result. KeepsFrontBy Continues (to.Conn id) [] c.sender moves (get result)) doing
  conn_mild get c doing sound mild here =
      conn_front get [] c doing sound (λ is. refl) (mild_good (to.Conn id) [] c.sender doing mild) here

  pub write_front : (piece : List ℕ) (c : Connection) → IsSoundSender c.sender
      → Always (λ moves (done : Connection × Wrote).
      KeepsFrontBy Continues (to.Conn id) (written_of (put_answer piece c.sender.writer) piece) c.sender moves done.0.sender) (write_to id piece c)
  write_front piece c sound =
      let written = written_of (put_answer piece c.sender.writer) piece in
      conn_front {A = Connection × Wrote} (λ done. done.0.sender) written c (write_to id piece c) sound (dropped piece c.sender.writer)
      (mild_good (to.Conn id) written c.sender (write_to id piece c) (write_to_mild id piece c)) (conn_writes id piece c sound)

  pub close_front : (c : Connection) → IsSoundSender c.sender → Always (Keeps Continues [] c.sender) (close id c)
  close_front c sound =
      conn_front (λ after. after.sender) [] c (close id c) sound (λ is. refl)
      (always_into (λ moves (after : Connection). IsGood (to.Conn id) [] c.sender moves) (λ after. record c { sender = after })
      (close_sender (outlet id) c.sender) (close_good (to.Conn id) c.sender sound)) (conn_closes id c sound)

  pub handled_front : (returned : Bool) (c : Connection) → IsSoundSender c.sender → Always (Keeps Continues [] c.sender) (handler_done id returned c)
  handled_front returned c sound =
      always_if (Keeps Continues [] c.sender) returned (Ends c) (close id c) (λ _. still c sound) (λ _. close_front c sound)

  -- its reader is told first
  pub lose_front : (broken : Bool) (c : Connection) → IsSoundSender c.sender
      → Always (Keeps (Loses (to.Conn id) broken) [] c.sender) (lose id broken c)
  lose_front broken c sound =
      let Lost = Keeps (Loses (to.Conn id) broken) [] c.sender in
      let fault = loss_of (outlet id) broken in
      let loses = on its_sender (lose_sender (outlet id) broken) in
      always_then Lost (on its_receiver (receive_loss fault) c) loses
      (always_into (λ moves mid. Always (λ more. Lost (moves ++ more)) (loses mid)) (λ after. record c { receiver = after })
      (receive_loss fault c.receiver)
      (always_map (λ moves after. IsApart (to.Conn id) moves)
      (λ moves after. Always (λ more. Lost (moves ++ more)) (loses (record c { receiver = after }))) (receive_loss fault c.receiver)
      (λ moves mid none.
      always_into (λ more. Lost (moves ++ more)) (λ after. record (record c { receiver = mid }) { sender = after })
      (lose_sender (outlet id) broken c.sender)
      (always_map (KeepsFrontBy (Loses (to.Conn id) broken) (to.Conn id) [] c.sender)
      (λ more. KeepsFrontBy (Loses (to.Conn id) broken) (to.Conn id) [] c.sender (moves ++ more)) (lose_sender (outlet id) broken c.sender)
      (λ more after keeps. front_after (to.Conn id) [] c.sender moves more after none (Loses (to.Conn id) broken) keeps)
      (loss_front (to.Conn id) broken c.sender sound)))
      (quiet_hands (to.Conn id) (receive_loss fault c.receiver) (quiet_step (receivers.IsLost fault) c.receiver))))

  pub start_front : (c : Connection) → IsSoundSender c.sender → Always (Keeps Continues [] c.sender) (Ends (start_read c))
  start_front c sound = still c sound

  pub up_front : (c : Connection) → IsSoundSender c.sender → Always (Keeps Continues [] c.sender) (up id c)
  up_front c sound = at c.making
    where
      at : (making : Option ℕ) → Always (Keeps Continues [] c.sender) (elim making [ Some future ↦ stand_up id future c | None ↦ Ends c ])
      at (Some future) = front_still (to.Conn id) c.sender _ sound (record { hands = refl; loses = refl; closes = refl })
      at None = still c sound

  -- what ends one that is being made
  unmade_front : (c : Connection) (moves : List Move) → IsSoundSender c.sender → handed_in (to.Conn id) moves ≡ [] → losses (to.Conn id) moves ≡ 0
      → good_losses (to.Conn id) moves ≡ 0 → closes (to.Conn id) moves ≡ 1 → Keeps (MayGiveUp id) [] c.sender moves (unmade c)
  unmade_front c moves sound none scheduled good closed =
      record {
        sound = ended_sound c.sender (phase.Lost false) refl sound;
        order = over_front (to.Conn id) [] c.sender moves (unmade c).sender none refl;
        stays = λ is. refl;
        silent = λ is. none;
        mute = λ is. refl;
        once = once_over c.sender.writer.ended true (losses (to.Conn id) moves) refl scheduled;
        good = none_good (to.Conn id) [] c.sender moves good;
        closed = λ some. refl;
        ends = inr (refl, closed);
      }

  pub down_front : (c : Connection) → IsSoundSender c.sender → Always (Keeps (MayGiveUp id) [] c.sender) (down id c)
  down_front c sound = at c.making
    where
      at : (making : Option ℕ) → Always (Keeps (MayGiveUp id) [] c.sender) (elim making [
        | Some future ↦ Changes (Settle future (Failed connect_refused)) (asks (call.Close id) (Ends (unmade c)))
        | None ↦ Ends c
      ])
      at (Some future) =
          λ came fit. unmade_front c _ sound (ap (λ bytes. bytes ++ []) (closes_hands (to.Conn id) came)) refl refl (one_close (to.Conn id))
      at None = front_as (MayGiveUp id) (to.Conn id) [] c.sender [] c.sender (still c sound)

  pub drop_front : (c : Connection) → IsSoundSender c.sender → Always (Keeps (MayGiveUp id) [] c.sender) (drop_connect id c)
  drop_front c sound =
      always_if (Keeps (MayGiveUp id) [] c.sender) (is_some c.making) (asks (call.Close id) (Ends (unmade c))) (close id c)
      (λ is came fit. unmade_front c _ sound (ap (λ bytes. bytes ++ []) (closes_hands (to.Conn id) came)) refl refl (one_close (to.Conn id)))
      (λ is.
      always_map (Keeps Continues [] c.sender) (Keeps (MayGiveUp id) [] c.sender) (close id c)
      (λ moves after keeps. front_as (MayGiveUp id) (to.Conn id) [] c.sender moves after.sender keeps) (close_front c sound))

  -- what is done with its receiver, with an answer
  pub take_front : {R : Type 0} (change : Receiver → Doing (Receiver × R)) → ((r : Receiver) → AllQuiet (change r)) → (c : Connection)
      → IsSoundSender c.sender
      → Always (λ moves (done : Connection × R). KeepsFrontBy Continues (to.Conn id) [] c.sender moves done.0.sender) (asked_on its_receiver change c)
  take_front {R} change quiet c sound =
      always_into (λ moves (done : Connection × R). KeepsFrontBy Continues (to.Conn id) [] c.sender moves done.0.sender)
      (λ (done : Receiver × R). (record c { receiver = done.0 }, done.1)) (change c.receiver)
      (always_map (λ moves (done : Receiver × R). IsApart (to.Conn id) moves)
      (λ moves (done : Receiver × R). KeepsFrontBy Continues (to.Conn id) [] c.sender moves c.sender) (change c.receiver)
      (λ moves done none. front_still (to.Conn id) c.sender moves sound none) (quiet_hands (to.Conn id) (change c.receiver) (quiet c.receiver)))

-- ---- a child
module _ (id : ℕ) where
  abbrev pub ChildKeeps : (way : Way) (piece : List ℕ) → Sender → List Move → Child → Type 0
  ChildKeeps way piece s moves after = KeepsFrontBy way (to.Child id) piece s moves after.stdin

  -- each step of it but a loss
  child_front : (step : children.ChildStep) (p : Child) → IsSoundSender p.stdin → children.May step p → children.ran_in step ≡ 0
      → (p.stdin.writer.ended ≡ true → children.written_in step p ≡ [])
      → Always (λ moves (after : Child). IsGood (to.Child id) (children.written_in step p) p.stdin moves) (children.done id step p)
      → Always (ChildKeeps Continues (children.written_in step p) p.stdin) (children.done id step p)
  child_front step p sound may none mute good =
      let Good = λ (moves : List Move) (after : Child). IsGood (to.Child id) (children.written_in step p) p.stdin moves in
      let Kept = children.KeepsChild id (children.ran_in step) (children.written_in step p) p in
      always_map (λ moves after. Kept moves after × Good moves after) (ChildKeeps Continues (children.written_in step p) p.stdin) (children.done id step p)
      (λ moves after it.
      front_of (to.Child id) (children.ran_in step) (children.written_in step p) p.stdin moves after.stdin sound none mute it.1 it.0)
      (always_both Kept Good (children.done id step p) (child_order.step_keeps id step p sound may) good)

  -- one that schedules no loss without an exception
  pub child_mild : (step : children.ChildStep) (p : Child) → IsSoundSender p.stdin → children.May step p → children.ran_in step ≡ 0
      → (p.stdin.writer.ended ≡ true → children.written_in step p ≡ []) → IsMild (children.done id step p)
      → Always (ChildKeeps Continues (children.written_in step p) p.stdin) (children.done id step p)
  child_mild step p sound may none mute mild =
      child_front step p sound may none mute (mild_good (to.Child id) (children.written_in step p) p.stdin (children.done id step p) mild)

  pub child_write_front : (piece : List ℕ) (p : Child) → IsSoundSender p.stdin
      → Always (ChildKeeps Continues (children.written_to piece p) p.stdin) (children.done id (children.Writes piece) p)
  child_write_front piece p sound =
      child_mild (children.Writes piece) p sound tt refl (λ over. by over (is_closing p.stdin))
      (mild_into {A = Child × Wrote} {B = Child} (λ done. done.0) (write_child id piece p) (child_write_mild id piece p))
    where
      by : p.stdin.writer.ended ≡ true → (b : Bool) → cond b [] (written_of (put_answer piece p.stdin.writer) piece) ≡ []
      by over true = refl
      by over false = dropped piece p.stdin.writer over

  pub child_close_front : (p : Child) → IsSoundSender p.stdin → Always (ChildKeeps Continues [] p.stdin) (close_child id p)
  child_close_front p sound =
      child_front children.Closes p sound tt refl (λ is. refl)
      (always_into (λ moves (after : Child). IsGood (to.Child id) [] p.stdin moves) (λ after. record p { stdin = after })
      (close_sender (inlet id) p.stdin) (close_good (to.Child id) p.stdin sound))

  -- one that breaks loses what is unsent by an exception
  break_good : (p : Child) → Always (λ moves (after : Child). IsGood (to.Child id) [] p.stdin moves) (break_stdin id p)
  break_good p =
      always_if (λ moves (after : Child). IsGood (to.Child id) [] p.stdin moves) p.stdin.writer.ended (Ends p)
      (on its_stdin (schedule_loss (inlet id) (has_unsent p.stdin)) p) (λ _. none_good (to.Child id) [] p.stdin [] refl)
      (λ live. by live (has_unsent p.stdin) refl)
    where
      by : p.stdin.writer.ended ≡ false → (b : Bool) → has_unsent p.stdin ≡ b
          → Always (λ moves (after : Child). IsGood (to.Child id) [] p.stdin moves) (on its_stdin (schedule_loss (inlet id) b) p)
      by live true is = none_good (to.Child id) [] p.stdin (Did (CallSoon ((inlet id).loses true)) ∷ []) refl
      by live false is = λ some written handed front. all_handed written handed p.stdin front live (nothing_by p.stdin.writer.unsent is)

  pub tell_front : (item : ChildItem (List ℕ)) (p : Child) → IsSoundSender p.stdin → Always (ChildKeeps Continues [] p.stdin) (tell_child id item p)
  tell_front Broken p sound = child_front (children.IsTold Broken) p sound tt refl (λ is. refl) (break_good p)
  tell_front (Out bytes) p sound =
      child_mild (children.IsTold (Out bytes)) p sound tt refl (λ is. refl) (tell_mild id (Out bytes) p (λ is. let bad : ⊥ = cc in bad))
  tell_front OutEnd p sound = child_mild (children.IsTold OutEnd) p sound tt refl (λ is. refl) (tell_mild id OutEnd p (λ is. let bad : ⊥ = cc in bad))
  tell_front (Errs bytes) p sound =
      child_mild (children.IsTold (Errs bytes)) p sound tt refl (λ is. refl) (tell_mild id (Errs bytes) p (λ is. let bad : ⊥ = cc in bad))
  tell_front ErrsEnd p sound = child_mild (children.IsTold ErrsEnd) p sound tt refl (λ is. refl) (tell_mild id ErrsEnd p (λ is. let bad : ⊥ = cc in bad))
  tell_front (Exit code) p sound =
      child_mild (children.IsTold (Exit code)) p sound tt refl (λ is. refl) (tell_mild id (Exit code) p (λ is. let bad : ⊥ = cc in bad))

  pub child_lose_front : (broken : Bool) (p : Child) → IsSoundSender p.stdin
      → Always (ChildKeeps (Loses (to.Child id) broken) [] p.stdin) (lose_child id broken p)
  child_lose_front broken p sound =
      always_into (ChildKeeps (Loses (to.Child id) broken) [] p.stdin) (λ after. record p { stdin = after }) (lose_sender (inlet id) broken p.stdin)
      (loss_front (to.Child id) broken p.stdin sound)

  pub pipe_front : {R : Type 0} (from : Stream) (change : Receiver → Doing (Receiver × R)) → ((r : Receiver) → AllQuiet (change r)) → (p : Child)
      → IsSoundSender p.stdin
      → Always (λ moves (done : Child × R). KeepsFrontBy Continues (to.Child id) [] p.stdin moves done.0.stdin) (asked_on (its_pipe from) change p)
  pipe_front {R} stream.Out change quiet p sound =
      always_into (λ moves (done : Child × R). KeepsFrontBy Continues (to.Child id) [] p.stdin moves done.0.stdin)
      (λ (done : Receiver × R). (record p { out = done.0 }, done.1)) (change p.out)
      (always_map (λ moves (done : Receiver × R). IsApart (to.Child id) moves)
      (λ moves (done : Receiver × R). KeepsFrontBy Continues (to.Child id) [] p.stdin moves p.stdin) (change p.out)
      (λ moves done none. front_still (to.Child id) p.stdin moves sound none) (quiet_hands (to.Child id) (change p.out) (quiet p.out)))
  pipe_front {R} stream.Errs change quiet p sound =
      always_into (λ moves (done : Child × R). KeepsFrontBy Continues (to.Child id) [] p.stdin moves done.0.stdin)
      (λ (done : Receiver × R). (record p { errs = done.0 }, done.1)) (change p.errs)
      (always_map (λ moves (done : Receiver × R). IsApart (to.Child id) moves)
      (λ moves (done : Receiver × R). KeepsFrontBy Continues (to.Child id) [] p.stdin moves p.stdin) (change p.errs)
      (λ moves done none. front_still (to.Child id) p.stdin moves sound none) (quiet_hands (to.Child id) (change p.errs) (quiet p.errs)))
