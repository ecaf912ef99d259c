-- A receiver gives what it received, in order, once, and lets go of what it holds as it fails.
use Rattle.std.proofs.Common.{◌≡◌, ℕ, Bool, true, false, cond, eqb, List, [], ◌∷◌, ◌++◌, Option, Some, None, length, take, drop}
use Rattle.std.proofs.Common.{refl, sym, ap, subst, ◌∙◌, arith}
use Rattle.std.specs.Prelude.{is_some}
use Rattle.std.proofs.lemmas.Bool.{false≢true}
use Rattle.std.proofs.lemmas.List.{append_assoc, append-nil, take-append-drop, drop_all, length-append}
use Rattle.model_value.specs.Value.{Exc}
use Rattle.model_stream.specs.declared.answers.StreamGot.TheVariants as got_as
use Rattle.model_stream.specs.declared.read_op.Taken.TheVariants as taken
use Rattle.model_stream.specs.Doing.{Ends, Changes, MakeFuture, and_then}
use Rattle.model_stream.specs.Reading.{Reading, ReadOp, Take, Taken, take_read, needs, feed, feed_eof, fail}
use Rattle.model_stream.specs.Receivers.{Receiver, StreamGot, AllGot, wakes, second_waiter, wait_for_data, read, read_as, read_all, all_taken, give_up_read}
use Rattle.law_stream.specs.ReaderSteps.{TakesFront, Gives as GivesFront, taken_away}
use Rattle.law_stream.proofs.ReaderOrder.{failed_leaves, in_order_then, takes_front, taken_order}
use Rattle.law_stream.specs.SenderSteps.{Leads}
use Rattle.law_stream.specs.Ways.{Move, Always}
use Rattle.law_stream.proofs.Along.{always_into, always_map}
use Rattle.law_stream.proofs.SenderRuns.{along}
use Rattle.law_stream.specs.SoundReceivers.{ReceiverStep, Receives, ReceivesEnd, IsLost, Reads, ReadsAll, GivesUp}
use Rattle.law_stream.specs.ReceiverOrder.{received_in, let_go_in, looked, with_none, gives_in, has_failed, InOrder, ReceiverGives, Still, Gives}

-- bytes that an operation gives are the front of what was held
given_order : (held : List ℕ) (t : Take) (bytes : List ℕ) → t.answer ≡ taken.Bytes bytes → TakesFront t held → held ≡ bytes ++ t.rest
given_order held t bytes e front =
    let given : bytes ≡ take front.count held = subst (λ answer. GivesFront answer (take front.count held)) e front.given in
    sym (take-append-drop front.count held)
    ∙ ap (λ bytes. bytes ++ drop front.count held) (sym given)
    ∙ ap (λ rest. bytes ++ rest) (sym front.rest)

none_order : (held : List ℕ) → held ≡ taken_away held held ++ held
none_order held = taken_order held (needs held) (record { count = 0; rest = refl; given = tt })

-- ---- a look, which lets nothing go
-- where all is left, nothing was taken
pub took_none : (held took rest : List ℕ) → held ++ [] ≡ took ++ rest → rest ≡ held → took ≡ []
took_none held [] rest order same = refl
took_none held (byte ∷ took) rest order same =
    let long = ap length order in
    let many = ap length same in
    absurd (omega (arith, long, many, length-append held [], length-append (byte ∷ took) rest))

-- what a look takes stands in front of what is left; one that failed is left as it is, and none fails by it
pub record Look (r : Receiver) (done : Receiver × List ℕ) : Type 0 where
  pub order : r.reader.held ++ [] ≡ done.1 ++ done.0.reader.held
  pub same : has_failed done.0 ≡ has_failed r
  pub leaves : has_failed r ≡ true → done.0.reader.held ≡ r.reader.held

look_order : (r : Receiver) (moves : List Move) (done : Receiver × List ℕ) → Look r done → InOrder [] [] r moves done
look_order r moves done it =
    record {
      order = it.order;
      none = λ failed. took_none r.reader.held done.1 done.0.reader.held it.order (it.leaves failed);
      stays = λ failed. it.same ∙ failed;
      kept = λ unfailed. refl;
    }

-- ---- a read
abbrev pub Looked : Receiver → List Move → Receiver × StreamGot → Type 0
Looked r moves done = Look r (looked r done)

wait_order : (next : ℕ) (r : Receiver) → Always (Looked r) (wait_for_data next r)
wait_order next r = at r.waiter
  where
    at : (waiter : Option ℕ) → Always (Looked r) (elim waiter [
      | Some future ↦ Ends (r, got_as.Raises second_waiter)
      | None ↦ Changes MakeFuture (Ends (record { reader = record r.reader { paused = false }; waiter = Some next }, got_as.Waits next))
    ])
    at (Some on) =
        record { order = append-nil r.reader.held ∙ none_order r.reader.held; same = refl; leaves = λ failed. refl }
    at None = record { order = append-nil r.reader.held; same = refl; leaves = λ failed. refl }

pub read_order : (next : ℕ) (op : ReadOp) (r : Receiver) → Always (Looked r) (read next op r)
read_order next op r = at (take_read op r.reader).answer refl
  where
    at : (answer : Taken) → (take_read op r.reader).answer ≡ answer → Always (Looked r) (read_as answer (take_read op r.reader) next r)
    at (taken.Bytes bytes) e =
        record {
          order = append-nil r.reader.held ∙ given_order r.reader.held (take_read op r.reader) bytes e (takes_front op r.reader);
          same = refl;
          leaves = λ failed. failed_leaves op r.reader failed;
        }
    at (taken.Raises fault) e =
        record {
          order = append-nil r.reader.held ∙ taken_order r.reader.held (take_read op r.reader) (takes_front op r.reader);
          same = refl;
          leaves = λ failed. failed_leaves op r.reader failed;
        }
    at taken.Needs e = wait_order next r

-- ---- a read of all
abbrev pub AllLooked : Receiver → List Move → Receiver × AllGot → Type 0
AllLooked r moves done = Look r (done.0, done.1.taken)

-- by one that didn't fail
abbrev Leaves : Receiver → List ℕ → List Move → Receiver × StreamGot → Type 0
Leaves r all moves done = (r.reader.held ++ [] ≡ all ++ done.0.reader.held) × (has_failed done.0 ≡ has_failed r)

wait_leaves : (next : ℕ) (r mid : Receiver) (all : List ℕ) → r.reader.held ++ [] ≡ all ++ mid.reader.held → has_failed mid ≡ has_failed r
    → Always (Leaves r all) (wait_for_data next mid)
wait_leaves next r mid all e same = at mid.waiter
  where
    at : (waiter : Option ℕ) → Always (Leaves r all) (elim waiter [
      | Some future ↦ Ends (mid, got_as.Raises second_waiter)
      | None ↦ Changes MakeFuture (Ends (record { reader = record mid.reader { paused = false }; waiter = Some next }, got_as.Waits next))
    ])
    at (Some on) = (e, same)
    at None = (e, same)

pub all_order : (next : ℕ) (r : Receiver) → Always (AllLooked r) (read_all next r)
all_order next r = at r.reader.failed refl
  where
    all : r.reader.held ++ [] ≡ r.reader.held ++ (all_taken r).reader.held
    all = ap (λ rest. r.reader.held ++ rest) (sym (drop_all (length r.reader.held) r.reader.held (omega arith)))

    by : has_failed r ≡ false → (b : Bool) → Always (AllLooked r) (cond b (Ends (all_taken r, record { taken = r.reader.held; got = got_as.Bytes [] }))
        (and_then (wait_for_data next (all_taken r)) (λ done. Ends (done.0, record { taken = r.reader.held; got = done.1 }))))
    by none true = record { order = all; same = refl; leaves = λ failed. absurd (false≢true (sym none ∙ failed)) }
    by none false =
        always_into {A = Receiver × StreamGot} (AllLooked r) (λ done. (done.0, record { taken = r.reader.held; got = done.1 }))
        (wait_for_data next (all_taken r))
        (always_map {A = Receiver × StreamGot} (Leaves r r.reader.held)
        (λ moves done. AllLooked r moves (done.0, record { taken = r.reader.held; got = done.1 })) (wait_for_data next (all_taken r))
        (λ moves done it. record { order = it.0; same = it.1; leaves = λ failed. absurd (false≢true (sym none ∙ failed)) })
        (wait_leaves next r (all_taken r) r.reader.held all refl))

    at : (failed : Option Exc) → r.reader.failed ≡ failed → Always (AllLooked r) (elim failed [
      | Some fault ↦ Ends (r, record { taken = []; got = got_as.Raises fault })
      | None ↦ cond r.reader.eof (Ends (all_taken r, record { taken = r.reader.held; got = got_as.Bytes [] }))
          (and_then (wait_for_data next (all_taken r)) (λ done. Ends (done.0, record { taken = r.reader.held; got = done.1 })))
    ])
    at (Some fault) is = record { order = append-nil r.reader.held; same = refl; leaves = λ failed. refl }
    at None is = by (ap is_some is) r.reader.eof

-- ---- the other steps
-- what is received, or the end, which none fails by
wakes_order : (r : Receiver) (received : List ℕ) (reader : Reading) (waiter : Option ℕ) → r.reader.held ++ received ≡ reader.held
    → reader.failed ≡ r.reader.failed → Always (InOrder received [] r) (with_none (wakes reader waiter))
wakes_order r received reader None e same =
    record { order = e; none = λ failed. refl; stays = λ failed. ap is_some same ∙ failed; kept = λ unfailed. refl }
wakes_order r received reader (Some on) e same =
    record { order = e; none = λ failed. refl; stays = λ failed. ap is_some same ∙ failed; kept = λ unfailed. refl }

-- a loss with an exception
fails_order : (r : Receiver) (fault : Exc) (waiter : Option ℕ) → Always (InOrder [] r.reader.held r) (with_none (wakes (fail fault r.reader) waiter))
fails_order r fault None =
    record { order = refl; none = λ failed. refl; stays = λ failed. refl; kept = λ unfailed. absurd (false≢true (sym unfailed)) }
fails_order r fault (Some on) =
    record { order = refl; none = λ failed. refl; stays = λ failed. refl; kept = λ unfailed. absurd (false≢true (sym unfailed)) }

give_up_order : (on : ℕ) (r : Receiver) → Look r (give_up_read on r, [])
give_up_order on r = at r.waiter
  where
    still : (waiter : Option ℕ) → Look r (record r { waiter = waiter }, [])
    still waiter = record { order = append-nil r.reader.held; same = refl; leaves = λ failed. refl }

    by : (b : Bool) → Look r (cond b (record r { waiter = None }) r, [])
    by true = still None
    by false = still r.waiter

    at : (waiter : Option ℕ)
        → Look r (elim waiter as (λ o. Receiver) [ None ↦ r | Some future ↦ cond (eqb future on) (record r { waiter = None }) r ], [])
    at None = still r.waiter
    at (Some future) = by (eqb future on)

pub step_in_order : (step : ReceiverStep) (r : Receiver) → Always (InOrder (received_in step) (let_go_in step r) r) (gives_in step r)
step_in_order (Receives piece) r = wakes_order r piece (feed piece r.reader) r.waiter refl refl
step_in_order ReceivesEnd r = wakes_order r [] (feed_eof r.reader) r.waiter (append-nil r.reader.held) refl
step_in_order (IsLost None) r = wakes_order r [] (feed_eof r.reader) r.waiter (append-nil r.reader.held) refl
step_in_order (IsLost (Some fault)) r = fails_order r fault r.waiter
step_in_order (Reads next op) r =
    always_into (InOrder [] [] r) (looked r) (read next op r)
    (always_map (Looked r) (λ moves done. InOrder [] [] r moves (looked r done)) (read next op r)
    (λ moves done it. look_order r moves (looked r done) it) (read_order next op r))
step_in_order (ReadsAll next) r =
    always_into {A = Receiver × AllGot} (InOrder [] [] r) (λ done. (done.0, done.1.taken)) (read_all next r)
    (always_map (AllLooked r) (λ moves (done : Receiver × AllGot). InOrder [] [] r moves (done.0, done.1.taken)) (read_all next r)
    (λ moves done it. look_order r moves (done.0, done.1.taken) it) (all_order next r))
step_in_order (GivesUp on) r = look_order r [] (give_up_read on r, []) (give_up_order on r)

-- ---- rows
step_of : (step : ReceiverStep) (r mid : Receiver) (piece : List ℕ) (moves : List Move)
    → Leads {A = Receiver × List ℕ} (gives_in step r) moves (mid, piece) → InOrder (received_in step) (let_go_in step r) r moves (mid, piece)
step_of step r mid piece moves way =
    along (InOrder (received_in step) (let_go_in step r) r) (gives_in step r) moves (mid, piece) (step_in_order step r) way

pub none_given : (r : Receiver) (received gave let_go : List ℕ) (after : Receiver) → ReceiverGives r received gave let_go after
    → has_failed r ≡ true → gave ≡ []
none_given _ _ _ _ _ (Still r) failed = refl
none_given _ _ _ _ _ (Gives step r mid after moves piece received gave let_go way more) failed =
    let here = step_of step r mid piece moves way in
    ap (λ bytes. bytes ++ gave) (here.none failed) ∙ none_given mid received gave let_go after more (here.stays failed)

stays_failed : (r : Receiver) (received gave let_go : List ℕ) (after : Receiver) → ReceiverGives r received gave let_go after
    → has_failed r ≡ true → has_failed after ≡ true
stays_failed _ _ _ _ _ (Still r) failed = failed
stays_failed _ _ _ _ _ (Gives step r mid after moves piece received gave let_go way more) failed =
    stays_failed mid received gave let_go after more ((step_of step r mid piece moves way).stays failed)

-- what is let go comes behind all that is given
pub behind : (lost gave : List ℕ) (b : Bool) → (b ≡ false → lost ≡ []) → (b ≡ true → gave ≡ []) → lost ++ gave ≡ gave ++ lost
behind lost gave true kept none =
    ap (λ bytes. lost ++ bytes) (none refl) ∙ append-nil lost ∙ sym (ap (λ bytes. bytes ++ lost) (none refl))
behind lost gave false kept none =
    ap (λ bytes. bytes ++ gave) (kept refl) ∙ sym (append-nil gave) ∙ sym (ap (λ bytes. gave ++ bytes) (kept refl))

pub gives_in_order : (r : Receiver) (received gave let_go : List ℕ) (after : Receiver) → ReceiverGives r received gave let_go after
    → r.reader.held ++ received ≡ gave ++ (let_go ++ after.reader.held)
gives_in_order _ _ _ _ _ (Still r) = append-nil r.reader.held
gives_in_order _ _ _ _ _ (Gives step r mid after moves piece received gave let_go way more) =
    let here = step_of step r mid piece moves way in
    sym (append_assoc r.reader.held (received_in step) received)
    ∙ ap (λ bytes. bytes ++ received) here.order
    ∙ append_assoc piece (let_go_in step r ++ mid.reader.held) received
    ∙ ap (λ bytes. piece ++ bytes)
    (append_assoc (let_go_in step r) mid.reader.held received
    ∙ ap (λ bytes. let_go_in step r ++ bytes) (gives_in_order mid received gave let_go after more))
    ∙ in_order_then piece (let_go_in step r) gave let_go after.reader.held
    (behind (let_go_in step r) gave (has_failed mid) here.kept (none_given mid received gave let_go after more))

pub none_lost : (r : Receiver) (received gave let_go : List ℕ) (after : Receiver) → ReceiverGives r received gave let_go after
    → has_failed after ≡ false → let_go ≡ []
none_lost _ _ _ _ _ (Still r) unfailed = refl
none_lost _ _ _ _ _ (Gives step r mid after moves piece received gave let_go way more) unfailed =
    let here = step_of step r mid piece moves way in
    ap (λ bytes. bytes ++ let_go) (here.kept (standing (has_failed mid) refl)) ∙ none_lost mid received gave let_go after more unfailed
  where
    standing : (b : Bool) → has_failed mid ≡ b → has_failed mid ≡ false
    standing true is = absurd (false≢true (sym unfailed ∙ stays_failed mid received gave let_go after more is))
    standing false is = is
