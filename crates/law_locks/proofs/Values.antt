-- The values of a queue: each try hands them on in order.
use Rattle.std.proofs.Common.{◌≡◌, ℕ, zero, suc, ℤ, Bool, true, false, List, [], ◌∷◌, ◌++◌, Option, Some, None, slice_get, slice_set}
use Rattle.std.proofs.Common.{refl, sym, ap, subst, ◌∙◌}
use Rattle.std.specs.Prelude.{◌==◌, if◌then◌else◌}
use Rattle.std.proofs.lemmas.Bool.{eq-eqb, eqb-true, true≢false}
use Rattle.std.proofs.lemmas.Grind.{flat_map-append}
use Rattle.std.proofs.lemmas.List.{append-nil, append_assoc}
use Rattle.model_value.specs.Input.{Input}
use Rattle.model_value.specs.Value.{Exc, Value}
use Rattle.model_loop.specs.Parts.{Parts}
use Rattle.model_machine.specs.Extra as extra
use Rattle.model_machine.specs.Extra.{ExtraAnswer, ExtraSaid}
use Rattle.model_says.specs.Operations.{out_of_range}
use Rattle.model_reach.specs.Part.{can_draw, place_of, refuses}
use Rattle.model_sync.specs.Synced.{Queue, Synced, Waiting, none_synced, sync_part, waiting_at}
use Rattle.model_sync.specs.Serving.{Get, Put, Wanted}
use Rattle.model_sync.specs.Serving.{asked_for}
use Rattle.model_sync.specs.Serving.{served, wanted_of, woken}
use Rattle.law_cancel.proofs.Lookups.{get-set_other, get-set_same}
use Rattle.law_locks.specs.Queues.{HandsOnInOrder, got_by, got_from, held_by, is_number, put_by, put_into, values_of}
use Rattle.law_locks.specs.Tries.{Asks, GoesOn, Reply, Try, asked_reply, kept_after, replies, reply_to, said_of, wanted_by, woken_reply}
use Rattle.law_locks.proofs.Served.{Resumes, Serves, clears, gets, gets_lock, gets_now, goes_by, leaves_event, leaves_get, leaves_lock, leaves_put}
use Rattle.law_locks.proofs.Served.{makes_event}
use Rattle.law_locks.proofs.Served.{makes_lock, makes_queue, puts, puts_now, releases, says_no, sees_event, sees_lock, sees_set, sees_size}
use Rattle.law_locks.proofs.Served.{serves_is, sets}
use Rattle.law_locks.proofs.Served.{stays_set, takes_lock, waits_event, waits_get, waits_get_again, waits_lock, waits_put, waits_put_again}
use Rattle.law_locks.proofs.Named.{AreMade, resumes_is, try_made, waiting_made}

-- ---- lists
pub differ_by : (id other : ℕ) → (id == other) ≡ false → id ≡ other → ⊥
differ_by id other e same = absurd (true≢false (sym (eq-eqb id other same) ∙ e))

-- a queue more, with nothing in it
none_at : (most : ℤ) (queue : ℕ) → values_of (slice_get (record { size = most; values = []; getters = []; putters = [] } ∷ []) queue) ≡ []
none_at most zero = refl
none_at most (suc zero) = refl
none_at most (suc (suc queue)) = refl

one_more : (qs : List Queue) (most : ℤ) (queue : ℕ)
    → values_of (slice_get (qs ++ record { size = most; values = []; getters = []; putters = [] } ∷ []) queue) ≡ values_of (slice_get qs queue)
one_more [] most zero = none_at most zero
one_more [] most (suc queue) = none_at most (suc queue)
one_more (x ∷ qs) most zero = refl
one_more (x ∷ qs) most (suc queue) = one_more qs most queue

-- ---- of one queue that becomes another
puts_on : (qs : List Queue) (id queue : ℕ) (old new : Queue) (more : List Value) → slice_get qs id ≡ Some old → old.values ++ more ≡ new.values
    → values_of (slice_get qs queue) ++ (if id == queue then more else []) ≡ values_of (slice_get (slice_set qs id new) queue)
puts_on qs id queue old new more found put = at (id == queue) refl
  where
    at : (b : Bool) → (id == queue) ≡ b
        → values_of (slice_get qs queue) ++ (if b then more else []) ≡ values_of (slice_get (slice_set qs id new) queue)
    at true e =
        subst (λ q. values_of (slice_get qs q) ++ more ≡ values_of (slice_get (slice_set qs id new) q)) (eqb-true id queue e)
        (ap (λ o. values_of o ++ more) found ∙ put ∙ sym (ap values_of (get-set_same qs id old new found)))
    at false e = append-nil (values_of (slice_get qs queue)) ∙ ap values_of (sym (get-set_other qs id queue new (differ_by id queue e)))

gets_on : (qs : List Queue) (id queue : ℕ) (old new : Queue) (got : List Value) → slice_get qs id ≡ Some old → old.values ≡ got ++ new.values
    → values_of (slice_get qs queue) ++ [] ≡ (if id == queue then got else []) ++ values_of (slice_get (slice_set qs id new) queue)
gets_on qs id queue old new got found taken = append-nil (values_of (slice_get qs queue)) ∙ at (id == queue) refl
  where
    at : (b : Bool) → (id == queue) ≡ b
        → values_of (slice_get qs queue) ≡ (if b then got else []) ++ values_of (slice_get (slice_set qs id new) queue)
    at true e =
        subst (λ q. values_of (slice_get qs q) ≡ got ++ values_of (slice_get (slice_set qs id new) q)) (eqb-true id queue e)
        (ap values_of found ∙ taken ∙ ap (λ o. got ++ values_of o) (sym (get-set_same qs id old new found)))
    at false e = ap values_of (sym (get-set_other qs id queue new (differ_by id queue e)))

module _ (queue : ℕ) where
  -- what was there and what is put is what is got and what is there then
  abbrev HandsOn : Wanted → Synced → ExtraSaid Synced → Type 0
  HandsOn wanted kept said = held_by queue kept ++ put_by queue wanted said.answer ≡ got_by queue wanted said.answer ++ held_by queue said.call.state

  -- one that raises puts nothing and gets nothing
  either_none : (b : Bool) → let none : List Value = [] in (if b then none else none) ≡ none
  either_none true = refl
  either_none false = refl

  none_put : (wanted : Wanted) (exception : Exc) → put_by queue wanted (extra.Raises exception) ≡ []
  none_put (Put id value) exception = either_none (is_number queue id)
  none_put _ exception = refl

  none_got : (wanted : Wanted) (exception : Exc) → got_by queue wanted (extra.Raises exception) ≡ []
  none_got (Get id) exception = either_none (is_number queue id)
  none_got _ exception = refl

  still : (kept : Synced) → held_by queue kept ++ [] ≡ held_by queue kept
  still kept = append-nil (held_by queue kept)

  module _ (p : Parts) (kept : Synced) where
    serves_hands : (wanted : Wanted) (said : ExtraSaid Synced) → Serves p kept wanted said → HandsOn wanted kept said
    serves_hands wanted said (says_no it exception) =
        ap (λ vs. held_by queue kept ++ vs) (none_put it exception) ∙ still kept ∙ ap (λ vs. vs ++ held_by queue kept) (sym (none_got it exception))
    serves_hands wanted said makes_lock = still kept
    serves_hands wanted said (takes_lock id lock found free) = still kept
    serves_hands wanted said (waits_lock id lock found held) = still kept
    serves_hands wanted said (releases id lock found locked) = still kept
    serves_hands wanted said (sees_lock id lock found) = still kept
    serves_hands wanted said makes_event = still kept
    serves_hands wanted said (sets id event found unset) = still kept
    serves_hands wanted said (stays_set id event found set) = still kept
    serves_hands wanted said (clears id event found) = still kept
    serves_hands wanted said (sees_event id event found) = still kept
    serves_hands wanted said (goes_by id event found set) = still kept
    serves_hands wanted said (waits_event id event found unset) = still kept
    serves_hands wanted said (makes_queue most) = still kept ∙ sym (one_more kept.queues most queue)
    serves_hands wanted said (puts id value it found open_) = puts_on kept.queues id queue it _ (value ∷ []) found refl
    serves_hands wanted said (waits_put id value it found full) = puts_on kept.queues id queue it _ [] found (append-nil it.values)
    serves_hands wanted said (gets id value values it found held) = gets_on kept.queues id queue it _ (value ∷ []) found held
    serves_hands wanted said (waits_get id it found empty) = gets_on kept.queues id queue it _ [] found refl
    serves_hands wanted said (sees_size id it found) = still kept

    resumes_hands : (key place : ℕ) (it : Waiting) (input : Input) (said : ExtraSaid Synced) → Resumes p kept key place it input said
        → HandsOn (wanted_by it) kept said
    resumes_hands key place it input said (gets_lock id on value lock found) = still kept
    resumes_hands key place it input said (leaves_lock id on exception lock found) = still kept
    resumes_hands key place it input said (sees_set id on value event found) = still kept
    resumes_hands key place it input said (leaves_event id on exception event found) = still kept
    resumes_hands key place it input said (puts_now id on value sent old found open_) = puts_on kept.queues id queue old _ (value ∷ []) found refl
    resumes_hands key place it input said (waits_put_again id on value sent old found full) =
        puts_on kept.queues id queue old _ [] found (append-nil old.values)
    resumes_hands key place it input said (leaves_put id on value exception old found) =
        puts_on kept.queues id queue old _ [] found (append-nil old.values)
    resumes_hands key place it input said (gets_now id on value sent values old found held) =
        gets_on kept.queues id queue old _ (value ∷ []) found held
    resumes_hands key place it input said (waits_get_again id on sent old found empty) = gets_on kept.queues id queue old _ [] found refl
    resumes_hands key place it input said (leaves_get id on exception old found) = gets_on kept.queues id queue old _ [] found refl

  -- ---- each try
  abbrev Hands : List Reply → Synced → Synced → Type 0
  Hands told kept now = held_by queue kept ++ put_into queue told ≡ got_from queue told ++ held_by queue now

  -- of one reply
  of_one : (kept now : Synced) (reply : Reply)
      → held_by queue kept ++ put_by queue reply.wanted reply.answer ≡ got_by queue reply.wanted reply.answer ++ held_by queue now
      → Hands (reply ∷ []) kept now
  of_one kept now reply h =
      ap (λ vs. held_by queue kept ++ vs) (append-nil (put_by queue reply.wanted reply.answer)) ∙ h
      ∙ ap (λ vs. vs ++ held_by queue now) (sym (append-nil (got_by queue reply.wanted reply.answer)))

  try_hands : (it : Try) (kept : Synced) → AreMade kept → Hands (reply_to it kept) kept (said_of it kept).call.state
  try_hands (Asks code arguments l) kept all = at (wanted_of code arguments)
    where
      drawn : (wanted : Wanted) (b : Bool)
          → Hands (if b then record {
            number = kept.drawn;
            wanted = wanted;
            waited = false;
            answer = ExtraSaid.answer (if b then served wanted l.parts kept else refuses out_of_range kept);
          } ∷ [] else []) kept (ExtraSaid.call (if b then served wanted l.parts kept else refuses out_of_range kept)).state
      drawn wanted true =
          of_one kept (served wanted l.parts kept).call.state (record {
            number = kept.drawn;
            wanted = wanted;
            waited = false;
            answer = (served wanted l.parts kept).answer;
          }) (serves_hands l.parts kept wanted (served wanted l.parts kept) (serves_is l.parts kept wanted))
      drawn wanted false = still kept

      at : (o : Option (Option Wanted)) → Hands (asked_reply o (asked_for code o l.parts kept).answer kept) kept (asked_for code o l.parts kept).call.state
      at None = still kept
      at (Some None) = still kept
      at (Some (Some wanted)) = drawn wanted (can_draw sync_part kept.drawn 1)
  try_hands (GoesOn key input l) kept all = at (waiting_at (place_of sync_part key) kept) refl
    where
      place : ℕ
      place = place_of sync_part key

      at : (o : Option Waiting) → waiting_at (place_of sync_part key) kept ≡ o
          → Hands (woken_reply o (place_of sync_part key) (woken o key (place_of sync_part key) input l.parts kept).answer) kept
          (woken o key (place_of sync_part key) input l.parts kept).call.state
      at None e = still kept
      at (Some it) e =
          let said = woken (Some it) key (place_of sync_part key) input l.parts kept in
          of_one kept said.call.state (record { number = place_of sync_part key; wanted = wanted_by it; waited = true; answer = said.answer })
          (resumes_hands l.parts kept key (place_of sync_part key) it input said
          (resumes_is l.parts kept all key (place_of sync_part key) it input (waiting_made l.parts kept all (place_of sync_part key) it e)))

  -- one after another
  hands_then : (first next : List Reply) (kept between now : Synced) → Hands first kept between → Hands next between now → Hands (first ++ next) kept now
  hands_then first next kept between now a b =
      ap (λ vs. held_by queue kept ++ vs) (flat_map-append (λ reply. put_by queue reply.wanted reply.answer) first next)
      ∙ sym (append_assoc (held_by queue kept) (put_into queue first) (put_into queue next)) ∙ ap (λ vs. vs ++ put_into queue next) a
      ∙ append_assoc (got_from queue first) (held_by queue between) (put_into queue next) ∙ ap (λ vs. got_from queue first ++ vs) b
      ∙ sym (append_assoc (got_from queue first) (got_from queue next) (held_by queue now))
      ∙ ap (λ vs. vs ++ held_by queue now) (sym (flat_map-append (λ reply. got_by queue reply.wanted reply.answer) first next))

  all_hand : (tries : List Try) (kept : Synced) → AreMade kept → Hands (replies tries kept) kept (kept_after tries kept)
  all_hand [] kept all = still kept
  all_hand (it ∷ tries) kept all =
      hands_then (reply_to it kept) (replies tries (said_of it kept).call.state) kept (said_of it kept).call.state
      (kept_after tries (said_of it kept).call.state)
      (try_hands it kept all) (all_hand tries (said_of it kept).call.state (try_made it kept all))

none_held : (queue : ℕ) → held_by queue none_synced ≡ []
none_held zero = refl
none_held (suc queue) = refl

pub hand_on_in_order : (tries : List Try) → HandsOnInOrder (replies tries none_synced) (kept_after tries none_synced)
hand_on_in_order tries queue =
    sym (all_hand queue tries none_synced tt) ∙ ap (λ vs. vs ++ put_into queue (replies tries none_synced)) (none_held queue)
