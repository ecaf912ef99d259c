-- What each operation of a receiver keeps, and what any row of them does.
use Rattle.std.proofs.Common.{◌≡◌, ℕ, ◌+◌, ◌-◌, ◌≤◌, ℤ, pos, negsuc, Bool, true, false, cond, eqb, leb, ltb, not, ◌&&◌, List, [], ◌∷◌, ◌++◌, Option, Some}
use Rattle.std.proofs.Common.{None, length, refl, sym}
use Rattle.std.proofs.Common.{ap, ◌∙◌, arith}
use Rattle.std.proofs.lemmas.Bool.{false≢true}
use Rattle.model_value.specs.Value.{Exc}
use Rattle.model_stream.specs.declared.answers.StreamGot.TheVariants as got_as
use Rattle.model_stream.specs.declared.read_op.ReadOp.TheVariants.{UpTo, Exactly, Until, Line}
use Rattle.model_stream.specs.declared.read_op.Taken.TheVariants as taken
use Rattle.model_stream.specs.Doing.{Ends, Changes, MakeFuture, CallSoon, Settle, and_then}
use Rattle.model_stream.specs.Reading.{Reading, ReadOp, Take, Taken, take_read, take_up_to, take_exactly, take_until, take_line, after_take, gives, raises}
use Rattle.model_stream.specs.Reading.{needs}
use Rattle.model_stream.specs.Reading.{unless_failed, first_at, until_found, until_unfound, line_at, unended_line, newline, feed, feed_eof, fail}
use Rattle.model_stream.specs.Receivers.{Receiver, StreamGot, AllGot, wakes, second_waiter, wait_for_data, read, read_as}
use Rattle.model_stream.specs.Receivers.{read_all}
use Rattle.model_stream.specs.Receivers.{all_taken, give_up_read}
use Rattle.model_stream.specs.Sending.{is_nothing}
use Rattle.law_stream.specs.Ways.{Move, Did, Heard, Always}
use Rattle.law_stream.proofs.Along.{always_into}
use Rattle.law_stream.proofs.SenderRuns.{along}
use Rattle.law_stream.specs.SoundReceivers.{IsWaiting, KeepsReceiver, ReceiverComes, Rests, Steps, ReceiverStep, Receives, ReceivesEnd, IsLost}
use Rattle.law_stream.specs.SoundReceivers.{Reads, ReadsAll, GivesUp, began_in, done, many_of, told, waits_on}

-- ---- an operation that needs more is on a reader that neither failed nor ended
abbrev OnlyWaits : Reading → Take → Type 0
OnlyWaits r t = t.answer ≡ taken.Needs → (r.failed ≡ None) × (r.eof ≡ false)

waits_if : (r : Reading) (b : Bool) (x y : Take) → (b ≡ true → OnlyWaits r x) → (b ≡ false → OnlyWaits r y) → OnlyWaits r (cond b x y)
waits_if r true x y here there = here refl
waits_if r false x y here there = there refl

gives_waits : (r : Reading) (count : ℕ) (held : List ℕ) → OnlyWaits r (gives count held)
gives_waits r count held e = absurd (let bad : ⊥ = cc in bad)

raises_waits : (r : Reading) (fault : Exc) (rest : List ℕ) → OnlyWaits r (raises fault rest)
raises_waits r fault rest e = absurd (let bad : ⊥ = cc in bad)

needs_waits : (r : Reading) (held : List ℕ) → r.failed ≡ None → r.eof ≡ false → OnlyWaits r (needs held)
needs_waits r held none open_ e = (none, open_)

unless_waits : (r : Reading) (other : Take) → (r.failed ≡ None → OnlyWaits r other) → OnlyWaits r (unless_failed r other)
unless_waits r other each = at r.failed refl
  where
    at : (failed : Option Exc) → r.failed ≡ failed → OnlyWaits r (elim failed [ None ↦ other | Some fault ↦ raises fault r.held ])
    at None e = each e
    at (Some fault) e = raises_waits r fault r.held

up_to_waits : (count : ℕ) (r : Reading) → OnlyWaits r (take_up_to count r)
up_to_waits count r =
    unless_waits r _ (λ none.
    waits_if r (eqb count 0) (gives 0 r.held) _ (λ _. gives_waits r 0 r.held) (λ _.
    waits_if r (is_nothing r.held && not r.eof) (needs r.held) (gives count r.held)
    (λ e. needs_waits r r.held none (unended (is_nothing r.held) r.eof e)) (λ _. gives_waits r count r.held)))
  where
    unended : (a b : Bool) → (a && not b) ≡ true → b ≡ false
    unended true true e = absurd (false≢true e)
    unended true false e = refl
    unended false b e = absurd (false≢true e)

exactly_waits : (count : ℤ) (r : Reading) → OnlyWaits r (take_exactly count r)
exactly_waits (negsuc n) r = raises_waits r _ r.held
exactly_waits (pos count) r =
    unless_waits r _ (λ none.
    waits_if r (leb count (length r.held)) (gives count r.held) _ (λ _. gives_waits r count r.held) (λ _.
    waits_if r r.eof _ (needs r.held) (λ _. raises_waits r _ []) (λ e. needs_waits r r.held none e)))

until_waits : (separator : List ℕ) (r : Reading) → OnlyWaits r (take_until separator r)
until_waits separator r =
    waits_if r (is_nothing separator) _ _ (λ _. raises_waits r _ r.held) (λ _. unless_waits r _ (λ none. at none (first_at separator r.held)))
  where
    at : r.failed ≡ None → (found : Option ℕ)
        → OnlyWaits r (elim found [ Some at ↦ until_found at (length separator) r | None ↦ until_unfound (length separator) r ])
    at none (Some place) =
        waits_if r (ltb r.limit place) _ _ (λ _. raises_waits r _ r.held) (λ _. gives_waits r (place + length separator) r.held)
    at none None =
        waits_if r (ltb r.limit (length r.held + 1 - length separator)) _ _ (λ _. raises_waits r _ r.held) (λ _.
        waits_if r r.eof _ (needs r.held) (λ _. raises_waits r _ []) (λ e. needs_waits r r.held none e))

line_waits : (r : Reading) → OnlyWaits r (take_line r)
line_waits r = unless_waits r _ (λ none. at none (first_at newline r.held))
  where
    at : r.failed ≡ None → (found : Option ℕ) → OnlyWaits r (elim found [ Some at ↦ line_at at r | None ↦ unended_line r ])
    at none (Some place) =
        waits_if r (ltb r.limit place) _ _ (λ _ e. absurd (let bad : ⊥ = cc in bad)) (λ _. gives_waits r (place + 1) r.held)
    at none None =
        waits_if r (ltb r.limit (length r.held)) _ _ (λ _ e. absurd (let bad : ⊥ = cc in bad)) (λ _.
        waits_if r r.eof _ (needs r.held) (λ _. gives_waits r (length r.held) r.held) (λ e. needs_waits r r.held none e))

read_waits : (op : ReadOp) (r : Reading) → OnlyWaits r (take_read op r)
read_waits (UpTo count) r = up_to_waits count r
read_waits (Exactly count) r = exactly_waits count r
read_waits (Until separator) r = until_waits separator r
read_waits Line r = line_waits r

-- ---- what is told and held
same_more : (future : ℕ) (waiter : Option ℕ) (began : List ℕ) → 0 + waits_on future waiter ≤ many_of future began + waits_on future waiter
same_more future waiter began = omega arith

-- the same waiter, over a reader that stays as it needs
still_keeps : (began : List ℕ) (r after : Receiver) → after.waiter ≡ r.waiter → (IsWaiting r.reader → IsWaiting after.reader) → KeepsReceiver began r [] after
still_keeps began r after same waits = record {
  sound = λ sound on e. waits (sound on (sym same ∙ e));
  tells = λ future. let e = ap (waits_on future) same in omega (arith, e);
}

none_keeps : (r : Receiver) (reader : Reading) → KeepsReceiver [] r [] (record { reader = reader; waiter = None })
none_keeps r reader = record { sound = λ sound on e. absurd (let bad : ⊥ = cc in bad); tells = λ future. omega arith }

wakes_keep : (r : Receiver) (reader : Reading) → Always (KeepsReceiver [] r) (wakes reader r.waiter)
wakes_keep r reader = at r.waiter refl
  where
    at : (waiter : Option ℕ) → r.waiter ≡ waiter → Always (KeepsReceiver [] r) (wakes reader waiter)
    at None e = none_keeps r reader
    at (Some on) e = record {
      sound = λ sound other f. absurd (let bad : ⊥ = cc in bad);
      tells = λ future. let g = ap (waits_on future) e in omega (arith, g);
    }

abbrev KeepsFirst : {R : Type 0} → List ℕ → Receiver → List Move → Receiver × R → Type 0
KeepsFirst began r moves done = KeepsReceiver began r moves done.0

-- a read that waits does so on a reader that neither failed nor ended, and resumes it
wait_keeps : (next : ℕ) (r mid : Receiver) → mid.waiter ≡ r.waiter → (IsWaiting r.reader → IsWaiting mid.reader)
    → mid.reader.failed ≡ None → mid.reader.eof ≡ false → Always (KeepsFirst {R = StreamGot} (next ∷ []) r) (wait_for_data next mid)
wait_keeps next r mid same waits none open_ = at mid.waiter refl
  where
    at : (waiter : Option ℕ) → mid.waiter ≡ waiter
        → Always (KeepsFirst {R = StreamGot} (next ∷ []) r) (elim waiter [
          | Some future ↦ Ends (mid, got_as.Raises second_waiter)
          | None ↦ Changes MakeFuture (Ends (record { reader = record mid.reader { paused = false }; waiter = Some next }, got_as.Waits next))
        ])
    at (Some on) e = still_keeps (next ∷ []) r mid same waits
    at None e = record {
      sound = λ sound on f. record { unpaused = refl; unended = open_; unfailed = none };
      tells = λ future. omega arith;
    }

-- what is taken leaves a reader for which one may wait so
taken_waits : (t : Take) (r : Reading) → IsWaiting r → IsWaiting (after_take t r)
taken_waits t r is = record {
  unpaused = ap (λ b. b && not (t.resumes && leb (length t.rest) r.limit)) is.unpaused;
  unended = is.unended;
  unfailed = is.unfailed;
}

read_keeps : (next : ℕ) (op : ReadOp) (r : Receiver) → Always (KeepsFirst {R = StreamGot} (next ∷ []) r) (read next op r)
read_keeps next op r = at (take_read op r.reader).answer refl
  where
    at : (answer : Taken) → (take_read op r.reader).answer ≡ answer
        → Always (KeepsFirst {R = StreamGot} (next ∷ []) r) (read_as answer (take_read op r.reader) next r)
    at (taken.Bytes bytes) e =
        still_keeps (next ∷ []) r (record r { reader = after_take (take_read op r.reader) r.reader }) refl (taken_waits (take_read op r.reader) r.reader)
    at (taken.Raises fault) e =
        still_keeps (next ∷ []) r (record r { reader = after_take (take_read op r.reader) r.reader }) refl (taken_waits (take_read op r.reader) r.reader)
    at taken.Needs e = let is = read_waits op r.reader e in wait_keeps next r r refl (λ h. h) is.0 is.1

read_all_keeps : (next : ℕ) (r : Receiver) → Always (KeepsFirst {R = AllGot} (next ∷ []) r) (read_all next r)
read_all_keeps next r = at r.reader.failed refl
  where
    taken_all : IsWaiting r.reader → IsWaiting (all_taken r).reader
    taken_all = taken_waits (gives (length r.reader.held) r.reader.held) r.reader

    by : r.reader.failed ≡ None → (b : Bool) → r.reader.eof ≡ b
        → Always (KeepsFirst {R = AllGot} (next ∷ []) r) (cond b (Ends (all_taken r, record { taken = r.reader.held; got = got_as.Bytes [] }))
        (and_then (wait_for_data next (all_taken r)) (λ done. Ends (done.0, record { taken = r.reader.held; got = done.1 }))))
    by none true e = still_keeps (next ∷ []) r (all_taken r) refl taken_all
    by none false e =
        always_into {A = Receiver × StreamGot} (KeepsFirst {R = AllGot} (next ∷ []) r) (λ done. (done.0, record { taken = r.reader.held; got = done.1 }))
        (wait_for_data next (all_taken r)) (wait_keeps next r (all_taken r) refl taken_all none e)

    at : (failed : Option Exc) → r.reader.failed ≡ failed
        → Always (KeepsFirst {R = AllGot} (next ∷ []) r) (elim failed [
          | Some fault ↦ Ends (r, record { taken = []; got = got_as.Raises fault })
          | None ↦ cond r.reader.eof (Ends (all_taken r, record { taken = r.reader.held; got = got_as.Bytes [] }))
              (and_then (wait_for_data next (all_taken r)) (λ done. Ends (done.0, record { taken = r.reader.held; got = done.1 })))
        ])
    at (Some fault) e = still_keeps (next ∷ []) r r refl (λ h. h)
    at None e = by e r.reader.eof refl

give_up_keeps : (on : ℕ) (r : Receiver) → KeepsReceiver [] r [] (give_up_read on r)
give_up_keeps on r = at r.waiter refl
  where
    by : (b : Bool) → KeepsReceiver [] r [] (cond b (record r { waiter = None }) r)
    by true = none_keeps r r.reader
    by false = still_keeps [] r r refl (λ h. h)

    at : (waiter : Option ℕ) → r.waiter ≡ waiter
        → KeepsReceiver [] r [] (elim waiter [ None ↦ r | Some future ↦ cond (eqb future on) (record r { waiter = None }) r ])
    at None e = still_keeps [] r r refl (λ h. h)
    at (Some future) e = by (eqb future on)

pub step_keeps : (step : ReceiverStep) (r : Receiver) → Always (KeepsReceiver (began_in step) r) (done step r)
step_keeps (Receives piece) r = wakes_keep r (feed piece r.reader)
step_keeps ReceivesEnd r = wakes_keep r (feed_eof r.reader)
step_keeps (IsLost None) r = wakes_keep r (feed_eof r.reader)
step_keeps (IsLost (Some fault)) r = wakes_keep r (fail fault r.reader)
step_keeps (Reads next op) r = always_into (KeepsReceiver (next ∷ []) r) (λ done. done.0) (read next op r) (read_keeps next op r)
step_keeps (ReadsAll next) r = always_into (KeepsReceiver (next ∷ []) r) (λ done. done.0) (read_all next r) (read_all_keeps next r)
step_keeps (GivesUp on) r = give_up_keeps on r

-- ---- rows
told_both : (future : ℕ) (moves more : List Move) → told future (moves ++ more) ≡ told future moves + told future more
told_both future [] more = omega arith
told_both future (Did (Settle other outcome) ∷ moves) more = let ih = told_both future moves more in omega (arith, ih)
told_both future (Did MakeFuture ∷ moves) more = told_both future moves more
told_both future (Did (CallSoon action) ∷ moves) more = told_both future moves more
told_both future (Heard call answer ∷ moves) more = told_both future moves more

many_both : (future : ℕ) (xs ys : List ℕ) → many_of future (xs ++ ys) ≡ many_of future xs + many_of future ys
many_both future [] ys = omega arith
many_both future (x ∷ xs) ys = let ih = many_both future xs ys in omega (arith, ih)

pub receivers_keep : (r : Receiver) (began : List ℕ) (moves : List Move) (after : Receiver) → ReceiverComes r began moves after
    → KeepsReceiver began r moves after
receivers_keep _ _ _ _ (Rests r) = record { sound = λ sound. sound; tells = λ future. omega arith }
receivers_keep _ _ _ _ (Steps step r mid after first more rest way comes) =
    let here = along (KeepsReceiver (began_in step) r) (done step r) first mid (step_keeps step r) way in
    let on = receivers_keep mid rest more after comes in
    record {
      sound = λ sound. on.sound (here.sound sound);
      tells = λ future.
          let a = here.tells future in
          let b = on.tells future in
          let c = told_both future first more in
          let d = many_both future (began_in step) rest in
          omega (arith, a, b, c, d);
    }

-- a future that was waited on once at most is told once at most
pub told_once : (future : ℕ) (r : Receiver) (began : List ℕ) (moves : List Move) (after : Receiver) → ReceiverComes r began moves after
    → r.waiter ≡ None → many_of future began ≤ 1 → told future moves + waits_on future after.waiter ≤ 1
told_once future r began moves after comes none once =
    let keeps = (receivers_keep r began moves after comes).tells future in
    let e = ap (waits_on future) none in
    omega (arith, keeps, e, once)
