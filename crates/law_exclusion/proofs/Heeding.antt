-- The loop heeds those who wait for locks, through all calls of a run.
use Rattle.std.proofs.Common.{◌≡◌, inl, ℕ, zero, suc, ℤ, Bool, List, [], ◌∷◌, ◌++◌, Option, Some, None, slice_get, refl, sym, ap, subst, ◌∙◌, arith, le_refl}
use Rattle.std.proofs.Common.{append-nil, if◌then◌else◌}
use Rattle.std.specs.List.{AllByRecursion as Each}
use Rattle.model_value.specs.Input.{Input}
use Rattle.model_value.specs.Value.{Value}
use Rattle.model_loop.specs.Parts.{Parts}
use Rattle.model_machine.specs.Extra.{Extra, ExtraCall, ExtraSaid, made_by_all}
use Rattle.model_machine.specs.Replies.{input_by}
use Rattle.model_machine.specs.State.{State}
use Rattle.model_reach.specs.Part.{stays as still}
use Rattle.model_reach.specs.Reach.{OfDgram, OfExec, OfGather, OfSync, Part, Parted, part_as, part_of_code, part_of_key, reach}
use Rattle.model_sync.specs.Serving.{sync_means}
use Rattle.model_sync.specs.Synced.{Acquires, Lock, Synced, none_synced, sync_keeps}
use Rattle.law_apart.specs.Apart.{Leaves, StaysOrIsCancelled}
use Rattle.law_apart.proofs.Parts.{stays_then}
use Rattle.law_calls.specs.Told as told
use Rattle.law_calls.specs.Told.{Acts, Happening, HasNews, Hears, IsHistory, MayHappen, Question, Told, Wakes, first_told, happens}
use Rattle.law_changes.specs.Reaches.{goes, stays}
use Rattle.law_heeded.specs.Between.{Along, AreLeft, WhereElse, is_of_part, own_of}
use Rattle.law_heeded.specs.Owned.{is_among}
use Rattle.law_heeded.proofs.Owning.{test_among}
use Rattle.law_locks.specs.Locks as locks
use Rattle.law_locks.specs.Locks.{HearsOf, IsHeeded, LeavesWaiters}
use Rattle.law_locks.specs.Runs.{is_of_sync, is_sync_code, tries_of}
use Rattle.law_locks.specs.Tries.{Asks, GoesOn, Try, kept_after, loop_of, said_of}
use Rattle.law_locks.proofs.Runs.{after-append, asked_by, tried, woken_by}
use Rattle.law_runs.specs.Allowed.{IsAmong}
use Rattle.law_sync.proofs.Holding.{LockHolds, holds_from}
use Rattle.law_sync.proofs.Lists.{each_at, each_both, each_from, each_on}
use Rattle.law_exclusion.proofs.Holding.{HeardFact}

-- ---- between two tries
waiters_then : (kept : Synced) (p q r : Parts) → LeavesWaiters kept p q → LeavesWaiters kept q r → LeavesWaiters kept p r
waiters_then kept p q r a b = record {
  made = let x = a.made in let y = b.made in omega (arith, x, y);
  waiters = λ id lock found.
      each_both (StaysOrIsCancelled p q) (StaysOrIsCancelled q r) (StaysOrIsCancelled p r) (λ on x y. stays_then p q r on x y) lock.waiters
      (a.waiters id lock found) (b.waiters id lock found);
}

waiters_same : (kept : Synced) (p : Parts) → LeavesWaiters kept p p
waiters_same kept p = record { made = le_refl _; waiters = λ id lock found. each_same lock.waiters }
  where
    each_same : (waiters : List ℕ) → Each (StaysOrIsCancelled p p) waiters
    each_same [] = tt
    each_same (on ∷ waiters) = (inl refl, each_same waiters)

heeded_on : (tries : List Try) (p : Parts) (kept : Synced) (q r : Parts) → IsHeeded p kept tries q → LeavesWaiters (kept_after tries kept) q r
    → IsHeeded p kept tries r
heeded_on [] p kept q r h more = waiters_then kept p q r h more
heeded_on (it ∷ tries) p kept q r h more = (
  h.0,
  h.1,
  heeded_on tries (made_by_all (said_of it kept).call.steps (loop_of it)).parts (said_of it kept).call.state q r h.2 more,
)

heeded_next : (tries : List Try) (it : Try) (p : Parts) (kept : Synced) → IsHeeded p kept tries (loop_of it).parts → locks.Hears it (kept_after tries kept)
    → IsHeeded p kept (tries ++ it ∷ []) (made_by_all (said_of it (kept_after tries kept)).call.steps (loop_of it)).parts
heeded_next [] it p kept h hears =
    (h, hears, waiters_same (said_of it kept).call.state (made_by_all (said_of it kept).call.steps (loop_of it)).parts)
heeded_next (x ∷ tries) it p kept h hears = (
  h.0,
  h.1,
  heeded_next tries it (made_by_all (said_of x kept).call.steps (loop_of x)).parts (said_of x kept).call.state h.2 hears,
)

-- those who wait for locks are among all who wait
waiters_of : (kept : Synced) (p q : Parts) → Leaves (is_among (sync_keeps kept).own) p q → LeavesWaiters kept p q
waiters_of kept p q leaves = record {
  made = leaves.more;
  waiters = λ id lock found.
      each_on (IsAmong (sync_keeps kept).own) (StaysOrIsCancelled p q)
      (λ on among. leaves.stay on (test_among (sync_keeps kept).own on among)) lock.waiters
      (each_at (LockHolds (IsAmong (sync_keeps kept).own) (λ value. Unit {0})) kept.locks id lock found
      (holds_from (IsAmong (sync_keeps kept).own) (λ value. Unit {0}) kept (each_from (IsAmong (sync_keeps kept).own) (sync_keeps kept).own (λ id_ h. h))
      (any (sync_keeps kept).values)).locks);
}
  where
    any : (xs : List Value) → Each (λ value. Unit {0}) xs
    any [] = tt
    any (x ∷ xs) = (tt, any xs)

none_found : (id : ℕ) (lock : Lock) → slice_get none_synced.locks id ≡ Some lock → ⊥
none_found zero lock e = absurd (cc)
none_found (suc id) lock e = absurd (cc)

module _ {A C D : Type 0} (limit : ℕ) (gather : Extra A) (exec : Extra C) (dgram : Extra D) (first : Parted A Synced C D)
    (nothing : first.sync ≡ none_synced) (p : Parts) where
  abbrev S : Type 0
  S = Parted A Synced C D

  abbrev added : Extra S
  added = reach gather sync_means exec dgram

  abbrev Left : {last : Told S} → IsHistory limit added (first_told first) last → Parts → Type 0
  Left history q = AreLeft gather sync_means exec dgram OfSync p history q

  abbrev Mine : S → ℕ → Bool
  Mine kept = is_among (own_of gather sync_means exec dgram OfSync kept)

  pub after_tries : {last : Told (Parted A Synced C D)} (history : IsHistory limit (reach gather sync_means exec dgram) (first_told first) last)
      → kept_after (tries_of history) none_synced ≡ last.extra.sync
  after_tries history = ap (kept_after (tries_of history)) (sym nothing) ∙ tried limit gather exec dgram history

  -- one try more, which is served so, in a state that keeps what the tries before left
  module _ {b : Told S} (history : IsHistory limit added (first_told first) b) (it : Try) (kept : S) (same : kept ≡ b.extra) (q : Parts) where
    found : kept_after (tries_of history) none_synced ≡ kept.sync
    found = after_tries history ∙ ap (λ (all : S). all.sync) (sym same)

    more_heeded : IsHeeded p none_synced (tries_of history) (loop_of it).parts → locks.Hears it kept.sync
        → Leaves (is_among (sync_keeps (said_of it kept.sync).call.state).own) (made_by_all (said_of it kept.sync).call.steps (loop_of it)).parts q
        → IsHeeded p none_synced (tries_of history ++ it ∷ []) q
    more_heeded h hears leaves =
        let tries = tries_of history in
        let now = kept_after tries none_synced in
        heeded_on (tries ++ it ∷ []) p none_synced (made_by_all (said_of it now).call.steps (loop_of it)).parts q
        (heeded_next tries it p none_synced h (subst (locks.Hears it) (sym found) hears))
        (subst (λ k. LeavesWaiters k (made_by_all (said_of it now).call.steps (loop_of it)).parts q) (sym (after-append tries (it ∷ []) none_synced))
        (subst (λ k. LeavesWaiters (said_of it k).call.state (made_by_all (said_of it k).call.steps (loop_of it)).parts q) (sym found)
        (waiters_of (said_of it kept.sync).call.state (made_by_all (said_of it kept.sync).call.steps (loop_of it)).parts q leaves)))

  none_heeded : {b : Told S} (history : IsHistory limit added (first_told first) b) (q : Parts) → IsHeeded p none_synced (tries_of history) q
      → IsHeeded p none_synced (tries_of history ++ []) q
  none_heeded history q h = subst (λ tries. IsHeeded p none_synced tries q) (sym (append-nil (tries_of history))) h

  -- by a call of it that is no try
  module _ {b : Told S} (history : IsHistory limit added (first_told first) b) (kept : S) (same : kept ≡ b.extra) (q r : Parts) where
    still_heeded : IsHeeded p none_synced (tries_of history) q → Leaves (is_among (sync_keeps kept.sync).own) q r
        → IsHeeded p none_synced (tries_of history ++ []) r
    still_heeded h leaves =
        subst (λ tries. IsHeeded p none_synced tries r) (sym (append-nil (tries_of history)))
        (heeded_on (tries_of history) p none_synced q r h
        (subst (λ k. LeavesWaiters k q r) (sym (after_tries history ∙ ap (λ (all : S). all.sync) (sym same))) (waiters_of kept.sync q r leaves)))

  -- ---- each call
  asks_heeded : {b : Told S} (history : IsHistory limit added (first_told first) b) (task : ℕ) (code : ℤ) (arguments : List Value) (s : State S) (q : Parts)
      → s.extra ≡ b.extra → ((r : Parts) → Left history r → IsHeeded p none_synced (tries_of history) r) → (o : Option Part) → part_of_code code ≡ o
      → WhereElse (is_of_part OfSync o) (Left history s.loop.parts
      × Leaves (Mine (added.ask task code arguments s).call.state) (made_by_all (added.ask task code arguments s).call.steps s.loop).parts q)
      (Left history q) → IsHeeded p none_synced (tries_of history ++ (if is_sync_code o then Asks code arguments s.loop ∷ [] else [])) q
  asks_heeded history task code arguments s q same each (Some OfSync) here left =
      more_heeded history (Asks code arguments s.loop) s.extra same q (each s.loop.parts left.0) tt
      (subst (λ (x : ExtraSaid S). Leaves (Mine x.call.state) (made_by_all x.call.steps s.loop).parts q)
      (asked_by limit gather exec dgram task code arguments s here) left.1)
  asks_heeded history task code arguments s q same each None here left = none_heeded history q (each q left)
  asks_heeded history task code arguments s q same each (Some OfGather) here left =
      none_heeded history q (each q left)
  asks_heeded history task code arguments s q same each (Some OfExec) here left =
      none_heeded history q (each q left)
  asks_heeded history task code arguments s q same each (Some OfDgram) here left =
      none_heeded history q (each q left)

  wakes_heeded : {b : Told S} (history : IsHistory limit added (first_told first) b) (key : ℕ) (input : Input) (s : State S) (q : Parts)
      → s.extra ≡ b.extra → ((r : Parts) → Left history r → IsHeeded p none_synced (tries_of history) r)
      → (part_of_key key ≡ OfSync → locks.Hears (GoesOn key input s.loop) s.extra.sync) → (o : Part) → part_of_key key ≡ o
      → WhereElse (is_of_part OfSync (Some o)) (Left history s.loop.parts
      × Leaves (Mine (added.wake key input s).call.state) (made_by_all (added.wake key input s).call.steps s.loop).parts q) (Left history q)
      → IsHeeded p none_synced (tries_of history ++ (if is_of_sync o then GoesOn key input s.loop ∷ [] else [])) q
  wakes_heeded history key input s q same each heard OfSync here left =
      more_heeded history (GoesOn key input s.loop) s.extra same q (each s.loop.parts left.0) (heard here)
      (subst (λ (x : ExtraSaid S). Leaves (Mine x.call.state) (made_by_all x.call.steps s.loop).parts q)
      (woken_by limit gather exec dgram key input s here) left.1)
  wakes_heeded history key input s q same each heard OfGather here left = none_heeded history q (each q left)
  wakes_heeded history key input s q same each heard OfExec here left = none_heeded history q (each q left)
  wakes_heeded history key input s q same each heard OfDgram here left = none_heeded history q (each q left)

  acts_heeded : {b : Told S} (history : IsHistory limit added (first_told first) b) (s : State S) (q : Parts) → s.extra ≡ b.extra
      → ((r : Parts) → Left history r → IsHeeded p none_synced (tries_of history) r) → (o : Part) (key : ℕ)
      → WhereElse (is_of_part OfSync (Some o)) (Left history s.loop.parts
      × Leaves (Mine ((part_as gather sync_means exec dgram o).act key s).state)
      (made_by_all ((part_as gather sync_means exec dgram o).act key s).steps s.loop).parts q) (Left history q)
      → IsHeeded p none_synced (tries_of history ++ []) q
  acts_heeded history s q same each OfSync key left = still_heeded history s.extra same s.loop.parts q (each s.loop.parts left.0) left.1
  acts_heeded history s q same each OfGather key left = none_heeded history q (each q left)
  acts_heeded history s q same each OfExec key left = none_heeded history q (each q left)
  acts_heeded history s q same each OfDgram key left = none_heeded history q (each q left)

  news_heeded : {b : Told S} (history : IsHistory limit added (first_told first) b) (s : State S) (q : Parts) → s.extra ≡ b.extra
      → ((r : Parts) → Left history r → IsHeeded p none_synced (tries_of history) r) → (o : Option Part) (code : ℤ) (bytes : List ℕ)
      → WhereElse (is_of_part OfSync o) (Left history s.loop.parts
      × Leaves (Mine (ExtraCall.state {S = S} (elim o [
        | None ↦ still s.extra
        | Some part ↦ (part_as gather sync_means exec dgram part).item code bytes s
      ]))) (made_by_all (ExtraCall.steps {S = S} (elim o [
        | None ↦ still s.extra
        | Some part ↦ (part_as gather sync_means exec dgram part).item code bytes s
      ])) s.loop).parts q) (Left history q)
      → IsHeeded p none_synced (tries_of history ++ []) q
  news_heeded history s q same each (Some OfSync) code bytes left = still_heeded history s.extra same s.loop.parts q (each s.loop.parts left.0) left.1
  news_heeded history s q same each None code bytes left = none_heeded history q (each q left)
  news_heeded history s q same each (Some OfGather) code bytes left = none_heeded history q (each q left)
  news_heeded history s q same each (Some OfExec) code bytes left = none_heeded history q (each q left)
  news_heeded history s q same each (Some OfDgram) code bytes left = none_heeded history q (each q left)

  -- ---- all of them
  pub heeded : {last : Told (Parted A Synced C D)} (history : IsHistory limit (reach gather sync_means exec dgram) (first_told first) last) (q : Parts)
      → AreLeft gather sync_means exec dgram OfSync p history q → Along HeardFact history
      → IsHeeded p none_synced (tries_of history) q
  heeded stays q left facts = record { made = left.more; waiters = λ id lock found. absurd (none_found id lock found) }
  heeded (goes history (told.Asks task code arguments s) may) q left facts =
      asks_heeded history task code arguments s q may.0 (λ r l. heeded history r l facts.0) (part_of_code code) refl left
  heeded (goes history (Wakes task key input s) may) q left facts =
      wakes_heeded history key input s q may.0 (λ r l. heeded history r l facts.0) (λ here id on e. facts.1 here (Acquires id on) e) (part_of_key key) refl left
  heeded (goes history (Hears question answer s) may) q left facts =
      wakes_heeded history question.key (input_by answer) s q may.0 (λ r l. heeded history r l facts.0) (λ here id on e. facts.1 here (Acquires id on) e)
      (part_of_key question.key) refl left
  heeded (goes history (Acts key s) may) q left facts =
      acts_heeded history s q may.0 (λ r l. heeded history r l facts.0) (part_of_key key) key left
  heeded (goes history (HasNews code bytes s) may) q left facts =
      news_heeded history s q may.0 (λ r l. heeded history r l facts.0) (part_of_code code) code bytes left
