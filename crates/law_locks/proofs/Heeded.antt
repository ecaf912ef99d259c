-- Where the loop heeds those who wait, what is so of a lock stays so through all tries.
use Rattle.std.proofs.Common.{◌≡◌, ℕ, zero, suc, Bool, true, false, List, [], ◌∷◌, ◌++◌, Option, Some, None}
use Rattle.std.proofs.Common.{slice_get, refl, sym, ap, subst, ◌∙◌}
use Rattle.std.proofs.Common.{le_refl}
use Rattle.std.specs.Prelude.{if◌then◌else◌, is_some}
use Rattle.std.specs.List.{AllByRecursion as Each}
use Rattle.model_loop.specs.Futures.{future_outcome, next_future}
use Rattle.model_loop.specs.Parts.{Parts}
use Rattle.model_machine.specs.Extra.{ExtraSaid, made_by_all}
use Rattle.model_says.specs.Operations.{out_of_range}
use Rattle.model_reach.specs.Part.{can_draw, place_of, refuses}
use Rattle.model_sync.specs.Serving.{Wanted, asked_for, served, wanted_of, woken}
use Rattle.model_sync.specs.Synced.{Lock, Synced, Waiting, none_synced, sync_part, waiting_at}
use Rattle.law_apart.specs.Apart.{StaysOrIsCancelled}
use Rattle.law_locks.specs.Locks.{Hears, IsHeeded, LeavesWaiters, LocksKeep}
use Rattle.law_locks.specs.Tries.{Asks, GoesOn, Reply, Try, asked_reply, kept_after, loop_of, replies, reply_to, said_of, wanted_by, woken_reply}
use Rattle.law_locks.proofs.Served.{serves_is}
use Rattle.law_locks.proofs.Named.{AreMade, resumes_is, try_made, waiting_made}
use Rattle.law_locks.proofs.Lines.{First, first_on, line_on, ons}
use Rattle.law_locks.proofs.Who.{apart_on, who}
use Rattle.law_locks.proofs.Held.{Chain, Held, StepTo, ends, locked_at, other_later, waiters_at}
use Rattle.law_locks.proofs.Steps.{resumes_to, serves_to}
use Rattle.law_locks.proofs.Chains.{chain_released, chain_rises}

-- ---- one try
pub record Stepped (n : ℕ) (kept : Synced) (least : ℕ) (now : Synced) (q : Parts) (told : List Reply) : Type 0 where
  pub next : ℕ
  pub held : Held n now q next
  pub chain : (rest : List Reply) → Chain n (locked_at (slice_get now.locks n)) next rest
      → Chain n (locked_at (slice_get kept.locks n)) least (told ++ rest)

module _ (n : ℕ) where
  stepped : (kept now : Synced) (least : ℕ) (q : Parts) (reply : Reply) → StepTo n kept least now q reply → Stepped n kept least now q (reply ∷ [])
  stepped kept now least q reply to = record { next = to.next; held = to.held; chain = to.chain }

  nothing : (kept : Synced) (least : ℕ) (p : Parts) → Held n kept p least → Stepped n kept least kept p []
  nothing kept least p h = record { next = least; held = h; chain = λ rest c. c }

  try_steps : (it : Try) (kept : Synced) (least : ℕ) → AreMade kept → Held n kept (loop_of it).parts least → Hears it kept
      → Stepped n kept least (said_of it kept).call.state (made_by_all (said_of it kept).call.steps (loop_of it)).parts (reply_to it kept)
  try_steps (Asks code arguments l) kept least all h hears = at (wanted_of code arguments)
    where
      drawn : (wanted : Wanted) (b : Bool)
          → Stepped n kept least (ExtraSaid.call (if b then served wanted l.parts kept else refuses out_of_range kept)).state
          (made_by_all (ExtraSaid.call (if b then served wanted l.parts kept else refuses out_of_range kept)).steps l).parts
          (if b then record {
            number = kept.drawn;
            wanted = wanted;
            waited = false;
            answer = ExtraSaid.answer (if b then served wanted l.parts kept else refuses out_of_range kept);
          } ∷ [] else [])
      drawn wanted true =
          stepped kept (served wanted l.parts kept).call.state least (made_by_all (served wanted l.parts kept).call.steps l).parts
          (record { number = kept.drawn; wanted = wanted; waited = false; answer = (served wanted l.parts kept).answer })
          (serves_to n kept l least h wanted (served wanted l.parts kept) (serves_is l.parts kept wanted))
      drawn wanted false = nothing kept least l.parts h

      at : (o : Option (Option Wanted))
          → Stepped n kept least (asked_for code o l.parts kept).call.state (made_by_all (asked_for code o l.parts kept).call.steps l).parts
          (asked_reply o (asked_for code o l.parts kept).answer kept)
      at None = nothing kept least l.parts h
      at (Some None) = nothing kept least l.parts h
      at (Some (Some wanted)) = drawn wanted (can_draw sync_part kept.drawn 1)
  try_steps (GoesOn key input l) kept least all h hears = at (waiting_at (place_of sync_part key) kept) refl
    where
      at : (o : Option Waiting) → waiting_at (place_of sync_part key) kept ≡ o
          → Stepped n kept least (woken o key (place_of sync_part key) input l.parts kept).call.state
          (made_by_all (woken o key (place_of sync_part key) input l.parts kept).call.steps l).parts
          (woken_reply o (place_of sync_part key) (woken o key (place_of sync_part key) input l.parts kept).answer)
      at None e = nothing kept least l.parts h
      at (Some it) e =
          let place = place_of sync_part key in
          let said = woken (Some it) key place input l.parts kept in
          stepped kept said.call.state least (made_by_all said.call.steps l).parts
          (record { number = place; wanted = wanted_by it; waited = true; answer = said.answer })
          (resumes_to n kept l least h key place it input said (resumes_is l.parts kept all key place it input (waiting_made l.parts kept all place it e)) e
          (λ id on same. hears id on (e ∙ ap Some same)))

  -- ---- between two tries
  of_line : (P : ℕ → Type 0) (line : List (ℕ × ℕ)) → Each P (ons line) → Each (λ e. P e.1) line
  of_line P [] all = tt
  of_line P (e ∷ line) all = (all.0, of_line P line all.1)

  between : (kept : Synced) (p q : Parts) (least : ℕ) → LeavesWaiters kept p q → Held n kept p least → Held n kept q least
  between kept p q least leaves h =
      let line = who n kept.waiting in
      let all = of_line (StaysOrIsCancelled p q) line (subst (Each (StaysOrIsCancelled p q)) h.waiters (at (slice_get kept.locks n) refl)) in
      record {
        waiters = h.waiters;
        line = line_on p q kept.drawn kept.drawn least line (le_refl _) leaves.made all h.line;
        first = first_on p q (locked_at (slice_get kept.locks n)) line all h.first;
        apart = apart_on n line line (next_future p) (next_future q) kept (λ on. other_later line (next_future p) (next_future q) on leaves.made) h.apart;
      }
    where
      at : (o : Option Lock) → slice_get kept.locks n ≡ o → Each (StaysOrIsCancelled p q) (waiters_at o)
      at None e = tt
      at (Some lock) e = leaves.waiters n lock e

  -- ---- all of them
  abbrev Ends : Synced → Parts → Type 0
  Ends kept q = (least : ℕ) × Held n kept q least

  all_step : (tries : List Try) (kept : Synced) (p q : Parts) (least : ℕ) → AreMade kept → Held n kept p least → IsHeeded p kept tries q
      → Chain n (locked_at (slice_get kept.locks n)) least (replies tries kept) × Ends (kept_after tries kept) q
  all_step [] kept p q least all h heeded = (ends, (least, between kept p q least heeded h))
  all_step (it ∷ tries) kept p q least all h heeded =
      let step = try_steps it kept least all (between kept p (loop_of it).parts least heeded.0 h) heeded.1 in
      let now = (said_of it kept).call.state in
      let rest = all_step tries now (made_by_all (said_of it kept).call.steps (loop_of it)).parts q step.next (try_made it kept all) step.held heeded.2 in
      (step.chain (replies tries now) rest.0, rest.1)

  none_there : (m : ℕ) → waiters_at (slice_get none_synced.locks m) ≡ []
  none_there zero = refl
  none_there (suc m) = refl

  none_found : (m : ℕ) (lock : Lock) → slice_get none_synced.locks m ≡ Some lock → ⊥
  none_found zero lock e = absurd (cc)
  none_found (suc m) lock e = absurd (cc)

  first_held : (p : Parts) → Held n none_synced p 0
  first_held p = record {
    waiters = none_there n;
    line = record { rising = tt; given = tt; rest = tt; due = tt; reached = le_refl _ };
    first = tt;
    apart = record { locks = λ m lock other found. absurd (none_found m lock found); events = tt; queues = tt };
  }

  all_kept : (tries : List Try) (p q : Parts) → IsHeeded p none_synced tries q
      → Chain n (locked_at (slice_get none_synced.locks n)) 0 (replies tries none_synced) × Ends (kept_after tries none_synced) q
  all_kept tries p q heeded = all_step tries none_synced p q 0 tt (first_held p) heeded

  -- the first who waits was woken
  woken_in : (q : Parts) (line : List (ℕ × ℕ)) (waiter : ℕ) (others : List ℕ) → First q false line → waiter ∷ others ≡ ons line
      → is_some (future_outcome q waiter) ≡ true
  woken_in q [] waiter others first same = absurd (cc)
  woken_in q (e ∷ line) waiter others first same = ap (λ on. is_some (future_outcome q on)) (heads waiter e.1 others (ons line) same) ∙ first
    where
      heads : (x y : ℕ) (xs ys : List ℕ) → x ∷ xs ≡ y ∷ ys → x ≡ y
      heads x y xs ys e = cc

  wakeup_kept : (kept : Synced) (q : Parts) → Ends kept q → (waiter : ℕ) (others : List ℕ) (lock : Lock) → slice_get kept.locks n ≡ Some lock
      → lock.locked ≡ false → lock.waiters ≡ waiter ∷ others → is_some (future_outcome q waiter) ≡ true
  wakeup_kept kept q end waiter others lock found open_ waiters =
      let h = end.1 in
      woken_in q (who n kept.waiting) waiter others (subst (λ b. First q b (who n kept.waiting)) (ap locked_at found ∙ open_) h.first)
      (sym waiters ∙ sym (ap waiters_at found) ∙ h.waiters)

pub locks_keep : (tries : List Try) (p q : Parts) → IsHeeded p none_synced tries q
    → LocksKeep (replies tries none_synced) q (kept_after tries none_synced)
locks_keep tries p q heeded = record {
  released = λ lock. chain_released lock (replies tries none_synced) (locked_at (slice_get none_synced.locks lock)) 0 (all_kept lock tries p q heeded).0;
  in_order = λ lock. chain_rises lock (replies tries none_synced) (locked_at (slice_get none_synced.locks lock)) 0 (all_kept lock tries p q heeded).0;
  wakeups = λ id waiter others lock. wakeup_kept id (kept_after tries none_synced) q (all_kept id tries p q heeded).1 waiter others lock;
}
