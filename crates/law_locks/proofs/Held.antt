-- What is so of a lock and those who wait for it, through each try.
use Rattle.std.proofs.Common.{◌≡◌, inl, ℕ, suc, pos, ◌+◌, ◌≤◌, Bool, true, false, List, [], ◌∷◌, ◌++◌, Option, Some, None}
use Rattle.std.proofs.Common.{slice_get}
use Rattle.std.proofs.Common.{slice_set, refl, sym, ap, subst, ◌∙◌, arith, le_refl}
use Rattle.std.specs.Prelude.{not, ◌&&◌, if◌then◌else◌}
use Rattle.std.specs.List.{AllByRecursion as Each}
use Rattle.std.specs.Map.{lookup, remove_entry}
use Rattle.std.proofs.lemmas.Bool.{and_parts, eq-eqb, false≢true}
use Rattle.std.proofs.lemmas.List.{map-append}
use Rattle.model_value.specs.Value.{Exc, Nothing, Truth}
use Rattle.model_loop.specs.Futures.{future_outcome, new_plain, next_future}
use Rattle.model_loop.specs.Loop.{Loop}
use Rattle.model_loop.specs.Parts.{Parts}
use Rattle.model_loop.specs.Tasks.{is_cancelled}
use Rattle.model_machine.specs.Extra.{Answers, ExtraStep, Raises, Waits, made_by_all}
use Rattle.model_sync.specs.Locks.{are_cancelled, set_lock}
use Rattle.model_sync.specs.Queues.{got_value}
use Rattle.model_sync.specs.Serving.{Acquire, Release}
use Rattle.model_sync.specs.Synced.{Acquires, Lock, Synced, draw, is_place, wait_last, wait_over, wake_first, without}
use Rattle.law_cancel.proofs.Lookups.{get-set_same}
use Rattle.law_sync.proofs.Lists.{each_append, each_on, each_removed}
use Rattle.law_locks.specs.Locks.{has_acquired, has_released}
use Rattle.law_locks.specs.Tries.{Reply}
use Rattle.law_locks.proofs.Lines.{First, Line, Stays, all_stay, first_on, first_removed, leaves_line, line_on, ons, ons_left, plain_more}
use Rattle.law_locks.proofs.Lines.{sends_line}
use Rattle.law_locks.proofs.Lines.{settle_made, takes_first, takes_line, waits_first, waits_line, wakes_first_of, wakes_line, woken_first}
use Rattle.law_locks.proofs.Who.{Apart, AreSame, IsOther, Leaves, apart_lock, apart_on, wants_own, who, who_last, who_own}

-- ---- answers in a row
-- From a lock that is locked, or isn't, and a least number: no acquire answers while it is locked, nor one that asked before.
pub data Chain (n : ℕ) : (locked : Bool) (least : ℕ) → List Reply → Type 0 where
  ends : {locked : Bool} {least : ℕ} → Chain n locked least []
  acquires : {least : ℕ} {replies : List Reply} (reply : Reply) → has_acquired n reply ≡ true → least ≤ reply.number
      → Chain n true (suc reply.number) replies → Chain n false least (reply ∷ replies)
  releases : {locked : Bool} {least : ℕ} {replies : List Reply} (reply : Reply) → has_acquired n reply ≡ false → has_released n reply ≡ true
      → Chain n false least replies → Chain n locked least (reply ∷ replies)
  passes : {locked : Bool} {least : ℕ} {replies : List Reply} (reply : Reply) → has_acquired n reply ≡ false → has_released n reply ≡ false
      → Chain n locked least replies → Chain n locked least (reply ∷ replies)

-- ---- the lock
abbrev pub waiters_at : Option Lock → List ℕ
waiters_at None = []
waiters_at (Some lock) = lock.waiters

abbrev pub locked_at : Option Lock → Bool
locked_at None = false
locked_at (Some lock) = lock.locked

pub record Held (n : ℕ) (kept : Synced) (p : Parts) (least : ℕ) : Type 0 where
  pub waiters : waiters_at (slice_get kept.locks n) ≡ ons (who n kept.waiting)
  pub line : Line p kept.drawn least (who n kept.waiting)
  pub first : First p (locked_at (slice_get kept.locks n)) (who n kept.waiting)
  pub apart : Apart n (who n kept.waiting) (next_future p) kept

-- what a try makes of it, with its reply
pub record StepTo (n : ℕ) (kept : Synced) (least : ℕ) (now : Synced) (q : Parts) (reply : Reply) : Type 0 where
  pub next : ℕ
  pub held : Held n now q next
  pub chain : (replies : List Reply) → Chain n (locked_at (slice_get now.locks n)) next replies
      → Chain n (locked_at (slice_get kept.locks n)) least (reply ∷ replies)

not_locked : (b : Bool) → not b ≡ true → b ≡ false
not_locked true h = absurd (false≢true h)
not_locked false h = refl

-- as it stands in the list
pub held_as : (n : ℕ) (kept : Synced) (p : Parts) (least : ℕ) (line : List (ℕ × ℕ)) (o : Option Lock) → who n kept.waiting ≡ line
    → slice_get kept.locks n ≡ o → waiters_at o ≡ ons line → Line p kept.drawn least line → First p (locked_at o) line
    → Apart n line (next_future p) kept → Held n kept p least
held_as n kept p least line o same found waiters it first apart = record {
  waiters = ap waiters_at found ∙ waiters ∙ ap ons (sym same);
  line = subst (Line p kept.drawn least) (sym same) it;
  first = subst (λ b. First p b (who n kept.waiting)) (sym (ap locked_at found)) (subst (First p (locked_at o)) (sym same) first);
  apart = subst (λ l. Apart n l (next_future p) kept) (sym same) apart;
}

-- ---- what is of something else
stays_by : (p q : Parts) (line : List (ℕ × ℕ)) → AreSame p q line → Each (Stays p q) line
stays_by p q line same =
    each_on (λ (e : ℕ × ℕ). future_outcome q e.1 ≡ future_outcome p e.1) (Stays p q) (λ e s. inl s) line same

pub other_later : (line : List (ℕ × ℕ)) (next later on : ℕ) → next ≤ later → IsOther line next on → IsOther line later on
other_later line next later on le h = (h.0, let l = h.1 in omega (arith, l, le))

module _ (n : ℕ) (kept now : Synced) (p q : Parts) (least : ℕ) (reply : Reply) (no_acquire : has_acquired n reply ≡ false)
    (no_release : has_released n reply ≡ false) (waiters : waiters_at (slice_get now.locks n) ≡ waiters_at (slice_get kept.locks n))
    (locked : locked_at (slice_get now.locks n) ≡ locked_at (slice_get kept.locks n)) (still : who n now.waiting ≡ who n kept.waiting)
    (drawn : kept.drawn ≤ now.drawn) (leaves : Leaves p q (who n kept.waiting)) (h : Held n kept p least) where
  abbrev before : List (ℕ × ℕ)
  before = who n kept.waiting

  all_leave : Each (Stays p q) before
  all_leave = stays_by p q before leaves.same

  line_then : Line q now.drawn least before
  line_then = line_on p q kept.drawn now.drawn least before drawn leaves.made all_leave h.line

  first_then : First q (locked_at (slice_get kept.locks n)) before
  first_then = first_on p q (locked_at (slice_get kept.locks n)) before all_leave h.first

  pub passes_to : Apart n (who n kept.waiting) (next_future q) now → StepTo n kept least now q reply
  passes_to apart = record {
    next = least;
    held = record {
      waiters = waiters ∙ h.waiters ∙ ap ons (sym still);
      line = subst (Line q now.drawn least) (sym still) line_then;
      first = subst (λ b. First q b (who n now.waiting)) (sym locked)
          (subst (First q (locked_at (slice_get kept.locks n))) (sym still) first_then);
      apart = subst (λ line. Apart n line (next_future q) now) (sym still) apart;
    };
    chain = λ replies c. passes reply no_acquire no_release (subst (λ b. Chain n b least replies) locked c);
  }

-- ---- the lock itself
module _ (n : ℕ) (kept : Synced) (l : Loop) (least : ℕ) (lock : Lock) (found : slice_get kept.locks n ≡ Some lock)
    (h : Held n kept l.parts least) where
  abbrev p : Parts
  p = l.parts

  abbrev line : List (ℕ × ℕ)
  line = who n kept.waiting

  waiters_are : lock.waiters ≡ ons line
  waiters_are = sym (ap waiters_at found) ∙ h.waiters

  first_now : First p lock.locked line
  first_now = subst (λ b. First p b line) (ap locked_at found) h.first

  -- the lock as it is then
  set_there : (new : Lock) → slice_get (slice_set kept.locks n new) n ≡ Some new
  set_there new = get-set_same kept.locks n lock new found

  chain_from : (locked : Bool) (replies : List Reply) → lock.locked ≡ locked → Chain n locked least replies
      → Chain n (locked_at (slice_get kept.locks n)) least replies
  chain_from locked replies is c = subst (λ b. Chain n b least replies) (sym (ap locked_at found ∙ is)) c

  chain_to : (new : Lock) (next : ℕ) (replies : List Reply) → Chain n (locked_at (slice_get (slice_set kept.locks n new) n)) next replies
      → Chain n new.locked next replies
  chain_to new next replies c = subst (λ b. Chain n b next replies) (ap locked_at (set_there new)) c

  apart_now : (new : Lock) (now : Synced) (more : List (ℕ × ℕ)) (q : Parts) → now.locks ≡ slice_set kept.locks n new → now.events ≡ kept.events
      → now.queues ≡ kept.queues → ((on : ℕ) → IsOther line (next_future p) on → IsOther more (next_future q) on) → Apart n more (next_future q) now
  apart_now new now more q locks events queues on =
      apart_on n line more (next_future p) (next_future q) now on
      (apart_lock n line (next_future p) kept now h.apart n lock new found locks events queues (inl refl))

  -- it is taken at once
  pub takes_own : (number : ℕ) → (not lock.locked && are_cancelled p lock.waiters) ≡ true
      → number ≡ kept.drawn
      → StepTo n kept least (set_lock n (record lock { locked = true }) (draw kept)) p
      (record { number = number; wanted = Acquire (pos n); waited = false; answer = Answers (Truth true) })
  takes_own number free is =
      let parts = and_parts (not lock.locked) (are_cancelled p lock.waiters) free in
      let all : are_cancelled p (ons line) ≡ true = ap (are_cancelled p) (sym waiters_are) ∙ parts.1 in
      let new : Lock = record lock { locked = true } in
      let now = set_lock n new (draw kept) in
      record {
        next = suc number;
        held = subst (λ k. Held n now p (suc k)) (sym is)
            (held_as n now p (suc kept.drawn) line (Some new) refl (set_there new) waiters_are (takes_line p kept.drawn least line h.line all)
            (takes_first p kept.drawn least line h.line all) (apart_now new now line p refl refl refl (λ on other. other)));
        chain = λ replies c.
            chain_from false _ (not_locked lock.locked parts.0)
            (acquires (record { number = number; wanted = Acquire (pos n); waited = false; answer = Answers (Truth true) }) (eq-eqb n n refl)
            (let r = h.line.reached in omega (arith, r, is)) (chain_to new (suc number) replies c));
      }

  -- a task waits for it
  other_new : (on : ℕ) → IsOther line (next_future p) on → IsOther (line ++ (kept.drawn, next_future p) ∷ []) (next_future (new_plain p)) on
  other_new on other =
      let less = other.1 in
      let more = plain_more p in (
        each_append (λ (e : ℕ × ℕ). e.1 ≡ on → ⊥) line ((kept.drawn, next_future p) ∷ []) other.0 ((λ same. absurd (omega (arith, same, less))), tt),
        omega (arith, less, more),
      )

  pub waits_own : (number key : ℕ) → (not lock.locked && are_cancelled p lock.waiters) ≡ false
      → StepTo n kept least (set_lock n (record lock { waiters = lock.waiters ++ next_future p ∷ [] }) (wait_last (Acquires n (next_future p)) kept))
      (new_plain p) (record { number = number; wanted = Acquire (pos n); waited = false; answer = Waits (next_future p) key })
  waits_own number key closed =
      let new : Lock = record lock { waiters = lock.waiters ++ next_future p ∷ [] } in
      let now = set_lock n new (wait_last (Acquires n (next_future p)) kept) in
      let more = line ++ (kept.drawn, next_future p) ∷ [] in
      let held : (not lock.locked && are_cancelled p (ons line)) ≡ false =
      ap (λ ws. not lock.locked && are_cancelled p ws) (sym waiters_are) ∙ closed in
      record {
        next = least;
        held = held_as n now (new_plain p) least more (Some new)
            (who_last n kept.waiting kept.drawn (Acquires n (next_future p)) ∙ ap (λ it. line ++ it) (wants_own n kept.drawn (next_future p)))
            (set_there new)
            (ap (λ ws. ws ++ next_future p ∷ []) waiters_are ∙ sym (map-append (λ (e : ℕ × ℕ). e.1) line ((kept.drawn, next_future p) ∷ [])))
            (waits_line p kept.drawn least line h.line) (waits_first p kept.drawn least line h.line lock.locked held first_now)
            (apart_now new now more (new_plain p) refl refl refl other_new);
        chain = λ replies c.
            chain_from lock.locked _ refl
            (passes (record { number = number; wanted = Acquire (pos n); waited = false; answer = Waits (next_future p) key }) refl refl
            (chain_to new least replies c));
      }

  -- it is released, and the first who waits is woken
  parts_woken : (waiting : List (ℕ × ℕ)) → (made_by_all (wake_first (ons waiting)) l).parts ≡ woken_first waiting p
  parts_woken [] = refl
  parts_woken (e ∷ waiting) = refl

  woken_made : (waiting : List (ℕ × ℕ)) → next_future (woken_first waiting p) ≡ next_future p
  woken_made [] = refl
  woken_made (e ∷ waiting) = settle_made e.1 _ p

  pub releases_own : (number : ℕ) → lock.locked ≡ true
      → StepTo n kept least (draw (set_lock n (record lock { locked = false }) kept)) (made_by_all (wake_first lock.waiters) l).parts
      (record { number = number; wanted = Release (pos n); waited = false; answer = Answers Nothing })
  releases_own number locked =
      let new : Lock = record lock { locked = false } in
      let now = draw (set_lock n new kept) in
      let q = woken_first line p in
      let made = woken_made line in
      let woken = wakes_line p kept.drawn least line h.line in
      record {
        next = least;
        held = subst (λ r. Held n now r least) (sym (ap (λ ws. (made_by_all (wake_first ws) l).parts) waiters_are ∙ parts_woken line))
            (held_as n now q least line (Some new) refl (set_there new) waiters_are
            (line_on q q kept.drawn (kept.drawn + 1) least line (omega arith) (le_refl _) (all_stay q q (λ on. refl) line) woken)
            (wakes_first_of p kept.drawn least line h.line)
            (apart_now new now line q refl refl refl (λ on other. other_later line (next_future p) (next_future q) on (omega (arith, made)) other)));
        chain = λ replies c.
            chain_from lock.locked _ refl
            (releases (record { number = number; wanted = Release (pos n); waited = false; answer = Answers Nothing }) refl (eq-eqb n n refl)
            (chain_to new least replies c));
      }

  -- ---- one who waited goes on
  module _ (place on : ℕ) (there : lookup (is_place place) kept.waiting ≡ Some (Acquires n on)) where
    abbrev left : List (ℕ × ℕ)
    left = remove_entry (is_place place) line

    own : (who n (remove_entry (is_place place) kept.waiting) ≡ left) × (lookup (is_place place) line ≡ Some on)
    own = who_own n (is_place place) kept.waiting on there

    waiters_left : without on lock.waiters ≡ ons left
    waiters_left = ap (without on) waiters_are ∙ sym (ons_left (is_place place) on line h.line.rising own.1)

    other_left : (next : ℕ) → next_future p ≤ next → (id : ℕ) → IsOther line (next_future p) id → IsOther left next id
    other_left next le id other =
        let less = other.1 in
        (each_removed (λ (e : ℕ × ℕ). e.1 ≡ id → ⊥) (is_place place) line other.0, omega (arith, less, le))

    pub gets_own : got_value (future_outcome p on) ≡ true
        → StepTo n kept least (set_lock n (record { locked = true; waiters = without on lock.waiters }) (wait_over place kept)) p
        (record { number = place; wanted = Acquire (pos n); waited = true; answer = Answers (Truth true) })
    gets_own value =
        let new : Lock = record { locked = true; waiters = without on lock.waiters } in
        let now = set_lock n new (wait_over place kept) in
        let sent = sends_line p kept.drawn least place on lock.locked line h.line first_now own.1 value in
        record {
          next = suc place;
          held = held_as n now p (suc place) left (Some new) own.0 (set_there new) waiters_left sent.left sent.unwoken
              (apart_now new now left p refl refl refl (other_left (next_future p) (le_refl _)));
          chain = λ replies c.
              chain_from false _ sent.open_
              (acquires (record { number = place; wanted = Acquire (pos n); waited = true; answer = Answers (Truth true) }) (eq-eqb n n refl) sent.late
              (chain_to new (suc place) replies c));
        }

    -- thrown a cancel, it wakes the next
    module _ (exception : Exc) (cancelled : is_cancelled exception ≡ true) where
      abbrev new : Lock
      new = record lock { waiters = without on lock.waiters }

      abbrev now : Synced
      now = set_lock n new (wait_over place kept)

      abbrev it : Reply
      it = record { number = place; wanted = Acquire (pos n); waited = true; answer = Raises exception }

      abbrev steps_if : Bool → List ExtraStep
      steps_if wakes_on = if wakes_on then wake_first (without on lock.waiters) else []

      abbrev after : Bool → Parts
      after wakes_on = (made_by_all (steps_if wakes_on) l).parts

      goes_left : (q : Parts) → next_future p ≤ next_future q → Line q kept.drawn least left → First q lock.locked left → StepTo n kept least now q it
      goes_left q le line_left first = record {
        next = least;
        held = held_as n now q least left (Some new) own.0 (set_there new) waiters_left line_left first
            (apart_now new now left q refl refl refl (other_left (next_future q) le));
        chain = λ replies c. chain_from lock.locked _ refl (passes it refl refl (chain_to new least replies c));
      }

      came : (b : Bool) → lock.locked ≡ b → after (is_cancelled exception && not lock.locked) ≡ after (not b)
      came b is = ap (λ c. after (c && not lock.locked)) cancelled ∙ ap (λ c. after (not c)) is

      at : (b : Bool) → lock.locked ≡ b → StepTo n kept least now (after (is_cancelled exception && not lock.locked)) it
      at true is =
          subst (λ q. StepTo n kept least now q it) (sym (came true is))
          (goes_left p (le_refl _) (leaves_line (is_place place) p kept.drawn least line h.line)
          (subst (λ b. First p b left) (sym is)
          (first_removed (is_place place) p line h.line.rest (subst (λ b. First p b line) is first_now))))
      at false is =
          let made = woken_made left in
          let line_left = leaves_line (is_place place) p kept.drawn least line h.line in
          subst (λ q. StepTo n kept least now q it)
          (sym (came false is ∙ ap (λ ws. (made_by_all (wake_first ws) l).parts) waiters_left ∙ parts_woken left))
          (goes_left (woken_first left p) (omega (arith, made)) (wakes_line p kept.drawn least left line_left)
          (subst (λ b. First (woken_first left p) b left) (sym is) (wakes_first_of p kept.drawn least left line_left)))

      pub leaves_own : StepTo n kept least now (after (is_cancelled exception && not lock.locked)) it
      leaves_own = at lock.locked refl
