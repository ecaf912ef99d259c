-- The numbers of requests: they rise as requests are asked, and one that goes on has the number under which it was asked.
use Rattle.std.proofs.Common.{◌≡◌, ◌⊎◌, inl, inr, ℕ, suc, ◌+◌, ◌≤◌, ◌<◌, Bool, true, false, cond, List, [], ◌∷◌, ◌++◌, Option, Some, None}
use Rattle.std.proofs.Common.{length}
use Rattle.std.proofs.Common.{refl, sym, ap, subst, ◌∙◌, arith}
use Rattle.std.specs.Prelude.{if◌then◌else◌}
use Rattle.std.specs.List.{AllByRecursion as Each}
use Rattle.std.specs.Map.{lookup, remove_entry, set_value}
use Rattle.std.proofs.lemmas.Bool.{eqb-true, true≢false}
use Rattle.std.proofs.lemmas.List.{append-nil, append_assoc}
use Rattle.model_value.specs.Input.{Input}
use Rattle.model_loop.specs.Futures.{next_future}
use Rattle.model_loop.specs.Parts.{Parts}
use Rattle.model_machine.specs.Extra.{ExtraSaid}
use Rattle.model_says.specs.Operations.{out_of_range}
use Rattle.model_reach.specs.Part.{can_draw, place_of, refuses}
use Rattle.model_sync.specs.Serving.{Wanted, asked_for, served, wanted_of, woken}
use Rattle.model_sync.specs.Synced.{Acquires, Awaits, Gets, Puts, Synced, Waiting, is_place, none_synced, sync_part}
use Rattle.model_sync.specs.Synced.{waiting_at}
use Rattle.law_cancel.proofs.Lookups.{get-push_last, get-push_other, get_within}
use Rattle.law_sync.proofs.Lists.{each_append, each_on, each_removed}
use Rattle.law_locks.specs.Requests.{RequestsKeep, WasAsked}
use Rattle.law_locks.specs.Tries.{Asks, GoesOn, Reply, Try, asked_reply, replies, reply_to, said_of, wanted_by, woken_reply}
use Rattle.law_locks.proofs.Served.{Resumes, Serves, clears, gets, gets_lock, gets_now, goes_by, leaves_event, leaves_get, leaves_lock, leaves_put}
use Rattle.law_locks.proofs.Served.{makes_event}
use Rattle.law_locks.proofs.Served.{makes_lock, makes_queue, puts, puts_now, releases, says_no, sees_event, sees_lock, sees_set, sees_size}
use Rattle.law_locks.proofs.Served.{serves_is, sets}
use Rattle.law_locks.proofs.Served.{stays_set, takes_lock, waits_event, waits_get, waits_get_again, waits_lock, waits_put, waits_put_again}
use Rattle.law_locks.proofs.Named.{AreMade, resumes_is, try_made, waiting_made}

-- ---- who waits, as it was asked
abbrev pub IsAskedIn : List Reply → ℕ × Waiting → Type 0
IsAskedIn told entry = WasAsked told entry.0 (wanted_by entry.1)

pub record Draws (kept now : Synced) (wanted : Wanted) : Type 0 where
  pub drawn : now.drawn ≡ kept.drawn + 1
  pub waiting : (now.waiting ≡ kept.waiting)
      ⊎ ((it : Waiting) × ((now.waiting ≡ kept.waiting ++ (kept.drawn, it) ∷ []) × (wanted_by it ≡ wanted)))

abbrev draws : (kept now : Synced) (wanted : Wanted) → now.drawn ≡ kept.drawn + 1 → now.waiting ≡ kept.waiting → Draws kept now wanted
draws kept now wanted drawn waiting = record { drawn = drawn; waiting = inl waiting }

module _ (p : Parts) (kept : Synced) where
  serves_draws : (wanted : Wanted) (said : ExtraSaid Synced) → Serves p kept wanted said → Draws kept said.call.state wanted
  serves_draws wanted said (says_no it exception) = record { drawn = refl; waiting = inl refl }
  serves_draws wanted said makes_lock = record { drawn = refl; waiting = inl refl }
  serves_draws wanted said (takes_lock id lock found free) = record { drawn = refl; waiting = inl refl }
  serves_draws wanted said (waits_lock id lock found held) =
      record { drawn = refl; waiting = inr (Acquires id (next_future p), (refl, refl)) }
  serves_draws wanted said (releases id lock found locked) = record { drawn = refl; waiting = inl refl }
  serves_draws wanted said (sees_lock id lock found) = record { drawn = refl; waiting = inl refl }
  serves_draws wanted said makes_event = record { drawn = refl; waiting = inl refl }
  serves_draws wanted said (sets id event found unset) = record { drawn = refl; waiting = inl refl }
  serves_draws wanted said (stays_set id event found set) = record { drawn = refl; waiting = inl refl }
  serves_draws wanted said (clears id event found) = record { drawn = refl; waiting = inl refl }
  serves_draws wanted said (sees_event id event found) = record { drawn = refl; waiting = inl refl }
  serves_draws wanted said (goes_by id event found set) = record { drawn = refl; waiting = inl refl }
  serves_draws wanted said (waits_event id event found unset) =
      record { drawn = refl; waiting = inr (Awaits id (next_future p), (refl, refl)) }
  serves_draws wanted said (makes_queue most) = record { drawn = refl; waiting = inl refl }
  serves_draws wanted said (puts id value queue found open_) = record { drawn = refl; waiting = inl refl }
  serves_draws wanted said (waits_put id value queue found full) =
      record { drawn = refl; waiting = inr (Puts id value (next_future p), (refl, refl)) }
  serves_draws wanted said (gets id value values queue found held) = record { drawn = refl; waiting = inl refl }
  serves_draws wanted said (waits_get id queue found empty) =
      record { drawn = refl; waiting = inr (Gets id (next_future p), (refl, refl)) }
  serves_draws wanted said (sees_size id queue found) = record { drawn = refl; waiting = inl refl }

  abbrev Stays : (place : ℕ) → Waiting → Synced → Type 0
  Stays place it now =
      (now.drawn ≡ kept.drawn)
      × ((now.waiting ≡ remove_entry (is_place place) kept.waiting)
      ⊎ ((new : Waiting) × ((now.waiting ≡ set_value (is_place place) kept.waiting new) × (wanted_by new ≡ wanted_by it))))

  resumes_stays : (key place : ℕ) (it : Waiting) (input : Input) (said : ExtraSaid Synced) → Resumes p kept key place it input said
      → Stays place it said.call.state
  resumes_stays key place it input said (gets_lock id on value lock found) = (refl, inl refl)
  resumes_stays key place it input said (leaves_lock id on exception lock found) = (refl, inl refl)
  resumes_stays key place it input said (sees_set id on value event found) = (refl, inl refl)
  resumes_stays key place it input said (leaves_event id on exception event found) = (refl, inl refl)
  resumes_stays key place it input said (puts_now id on value sent queue found open_) = (refl, inl refl)
  resumes_stays key place it input said (waits_put_again id on value sent queue found full) =
      (refl, inr (Puts id value (next_future p), (refl, refl)))
  resumes_stays key place it input said (leaves_put id on value exception queue found) = (refl, inl refl)
  resumes_stays key place it input said (gets_now id on value sent values queue found held) = (refl, inl refl)
  resumes_stays key place it input said (waits_get_again id on sent queue found empty) =
      (refl, inr (Gets id (next_future p), (refl, refl)))
  resumes_stays key place it input said (leaves_get id on exception queue found) = (refl, inl refl)

-- ---- entries by their places
module _ {A : Type 0} (P : ℕ × A → Type 0) (place : ℕ) where
  found_at : (xs : List (ℕ × A)) (it : A) → lookup (is_place place) xs ≡ Some it → Each P xs → P (place, it)
  found_at [] it found all = absurd (cc)
  found_at (x ∷ xs) it found all = at (λ g. found_at xs it g all.1) (is_place place x.0) refl found
    where
      same_as : (y z : A) → Some y ≡ Some z → y ≡ z
      same_as y z e = cc

      at : (lookup (is_place place) xs ≡ Some it → P (place, it)) → (b : Bool) → is_place place x.0 ≡ b
          → cond b (Some x.1) (lookup (is_place place) xs) ≡ Some it → P (place, it)
      at rest true here found = subst (λ k. P (k, it)) (eqb-true x.0 place here) (subst (λ y. P (x.0, y)) (same_as x.1 it found) all.0)
      at rest false here found = rest found

  replaced_at : (xs : List (ℕ × A)) (new : A) → Each P xs → P (place, new) → Each P (set_value (is_place place) xs new)
  replaced_at [] new all it = tt
  replaced_at (x ∷ xs) new all it = at (replaced_at xs new all.1 it) (is_place place x.0) refl
    where
      at : Each P (set_value (is_place place) xs new) → (b : Bool) → is_place place x.0 ≡ b
          → Each P (cond b ((x.0, new) ∷ xs) (x ∷ set_value (is_place place) xs new))
      at rest true here = (subst (λ k. P (k, new)) (sym (eqb-true x.0 place here)) it, all.1)
      at rest false here = (all.0, rest)

-- ---- replies told one after another
abbrev Along : List Reply → (least : ℕ) → List Reply → Type 0
Along told least [] = Unit {0}
Along told least (reply ∷ replies) =
    (reply.waited ≡ true → WasAsked told reply.number reply.wanted) × (reply.waited ≡ false → least ≤ reply.number)
    × Along (told ++ reply ∷ []) (cond reply.waited least (suc reply.number)) replies

-- what was told before stays told
still_asked : (told : List Reply) (reply : Reply) (number : ℕ) (wanted : Wanted) → WasAsked told number wanted
    → WasAsked (told ++ reply ∷ []) number wanted
still_asked told reply number wanted w = record {
  place = w.place;
  reply = w.reply;
  there = get-push_other told reply w.place (λ same. let l = get_within told w.place w.reply w.there in absurd (omega (arith, l, same))) ∙ w.there;
  asked = w.asked;
  numbered = w.numbered;
  wants = w.wants;
}

all_still : (told : List Reply) (reply : Reply) (waiting : List (ℕ × Waiting)) → Each (IsAskedIn told) waiting → Each (IsAskedIn (told ++ reply ∷ [])) waiting
all_still told reply waiting all =
    each_on (IsAskedIn told) (IsAskedIn (told ++ reply ∷ [])) (λ entry w. still_asked told reply entry.0 (wanted_by entry.1) w) waiting all

-- the replies of a try, and who waits then
pub record Goes (told : List Reply) (kept now : Synced) (replied : List Reply) : Type 0 where
  pub along : (rest : List Reply) → Along (told ++ replied) now.drawn rest → Along told kept.drawn (replied ++ rest)
  pub waiting : Each (IsAskedIn (told ++ replied)) now.waiting

nobody : (told : List Reply) (kept : Synced) → Each (IsAskedIn told) kept.waiting → Goes told kept kept []
nobody told kept all = record {
  along = λ rest a. subst (λ ts. Along ts kept.drawn rest) (append-nil told) a;
  waiting = subst (λ ts. Each (IsAskedIn ts) kept.waiting) (sym (append-nil told)) all;
}

asks_goes : (told : List Reply) (kept now : Synced) (reply : Reply) → reply.waited ≡ false → reply.number ≡ kept.drawn → Draws kept now reply.wanted
    → Each (IsAskedIn told) kept.waiting → Goes told kept now (reply ∷ [])
asks_goes told kept now reply asked number draws all = record {
  along = λ rest a. (
    λ waited. absurd (true≢false (sym waited ∙ asked)),
    λ first. omega (arith, number),
    subst (λ k. Along (told ++ reply ∷ []) k rest) (later draws.drawn) a,
  );
  waiting = who draws.waiting;
}
  where
    later : now.drawn ≡ kept.drawn + 1 → now.drawn ≡ cond reply.waited kept.drawn (suc reply.number)
    later drawn = omega (arith, drawn, number) ∙ ap (λ b. cond b kept.drawn (suc reply.number)) (sym asked)

    who : (now.waiting ≡ kept.waiting) ⊎ ((it : Waiting) × ((now.waiting ≡ kept.waiting ++ (kept.drawn, it) ∷ []) × (wanted_by it ≡ reply.wanted)))
        → Each (IsAskedIn (told ++ reply ∷ [])) now.waiting
    who (inl same) = subst (Each (IsAskedIn (told ++ reply ∷ []))) (sym same) (all_still told reply kept.waiting all)
    who (inr last) =
        subst (Each (IsAskedIn (told ++ reply ∷ []))) (sym last.1.0)
        (each_append (IsAskedIn (told ++ reply ∷ [])) kept.waiting ((kept.drawn, last.0) ∷ []) (all_still told reply kept.waiting all) (
          record {
            place = length told;
            reply = reply;
            there = get-push_last told reply;
            asked = asked;
            numbered = number;
            wants = sym last.1.1;
          },
          tt,
        ))

goes_on_goes : (told : List Reply) (p : Parts) (kept now : Synced) (it : Waiting) (reply : Reply) → reply.waited ≡ true → reply.wanted ≡ wanted_by it
    → waiting_at reply.number kept ≡ Some it → Stays p kept reply.number it now → Each (IsAskedIn told) kept.waiting → Goes told kept now (reply ∷ [])
goes_on_goes told p kept now it reply waited wanted there stays all = record {
  along = λ rest a. (
    λ is. was,
    λ first. absurd (true≢false (sym waited ∙ first)),
    subst (λ k. Along (told ++ reply ∷ []) k rest) (stays.0 ∙ ap (λ b. cond b kept.drawn (suc reply.number)) (sym waited)) a,
  );
  waiting = who stays.1;
}
  where
    was_in : WasAsked told reply.number (wanted_by it)
    was_in = found_at (IsAskedIn told) reply.number kept.waiting it there all

    was : WasAsked told reply.number reply.wanted
    was = subst (WasAsked told reply.number) (sym wanted) was_in

    who : (now.waiting ≡ remove_entry (is_place reply.number) kept.waiting)
        ⊎ ((new : Waiting) × ((now.waiting ≡ set_value (is_place reply.number) kept.waiting new) × (wanted_by new ≡ wanted_by it)))
        → Each (IsAskedIn (told ++ reply ∷ [])) now.waiting
    who (inl over) =
        subst (Each (IsAskedIn (told ++ reply ∷ []))) (sym over)
        (all_still told reply (remove_entry (is_place reply.number) kept.waiting)
        (each_removed (IsAskedIn told) (is_place reply.number) kept.waiting all))
    who (inr again) =
        subst (Each (IsAskedIn (told ++ reply ∷ []))) (sym again.1.0)
        (all_still told reply (set_value (is_place reply.number) kept.waiting again.0)
        (replaced_at (IsAskedIn told) reply.number kept.waiting again.0 all (subst (WasAsked told reply.number) (sym again.1.1) was_in)))

try_goes : (told : List Reply) (it : Try) (kept : Synced) → AreMade kept → Each (IsAskedIn told) kept.waiting
    → Goes told kept (said_of it kept).call.state (reply_to it kept)
try_goes told (Asks code arguments l) kept made all = at (wanted_of code arguments)
  where
    drawn : (wanted : Wanted) (b : Bool)
        → Goes told kept (ExtraSaid.call (if b then served wanted l.parts kept else refuses out_of_range kept)).state
        (if b then record {
          number = kept.drawn;
          wanted = wanted;
          waited = false;
          answer = ExtraSaid.answer (if b then served wanted l.parts kept else refuses out_of_range kept);
        } ∷ [] else [])
    drawn wanted true =
        asks_goes told kept (served wanted l.parts kept).call.state
        (record { number = kept.drawn; wanted = wanted; waited = false; answer = (served wanted l.parts kept).answer }) refl refl
        (serves_draws l.parts kept wanted (served wanted l.parts kept) (serves_is l.parts kept wanted)) all
    drawn wanted false = nobody told kept all

    at : (o : Option (Option Wanted))
        → Goes told kept (asked_for code o l.parts kept).call.state (asked_reply o (asked_for code o l.parts kept).answer kept)
    at None = nobody told kept all
    at (Some None) = nobody told kept all
    at (Some (Some wanted)) = drawn wanted (can_draw sync_part kept.drawn 1)
try_goes told (GoesOn key input l) kept made all = at (waiting_at (place_of sync_part key) kept) refl
  where
    at : (o : Option Waiting) → waiting_at (place_of sync_part key) kept ≡ o
        → Goes told kept (woken o key (place_of sync_part key) input l.parts kept).call.state
        (woken_reply o (place_of sync_part key) (woken o key (place_of sync_part key) input l.parts kept).answer)
    at None e = nobody told kept all
    at (Some it) e =
        let place = place_of sync_part key in
        let said = woken (Some it) key place input l.parts kept in
        goes_on_goes told l.parts kept said.call.state it (record { number = place; wanted = wanted_by it; waited = true; answer = said.answer }) refl refl e
        (resumes_stays l.parts kept key place it input said
        (resumes_is l.parts kept made key place it input (waiting_made l.parts kept made place it e))) all

all_along : (told : List Reply) (tries : List Try) (kept : Synced) → AreMade kept → Each (IsAskedIn told) kept.waiting
    → Along told kept.drawn (replies tries kept)
all_along told [] kept made all = tt
all_along told (it ∷ tries) kept made all =
    let step = try_goes told it kept made all in
    let now = (said_of it kept).call.state in
    step.along (replies tries now) (all_along (told ++ reply_to it kept) tries now (try_made it kept made) step.waiting)

-- ---- read off
asked_along : (told : List Reply) (least : ℕ) (all before after : List Reply) (reply : Reply) → Along told least all → all ≡ before ++ reply ∷ after
    → reply.waited ≡ true → WasAsked (told ++ before) reply.number reply.wanted
asked_along told least [] [] after reply a split waited = absurd (cc)
asked_along told least [] (x ∷ before) after reply a split waited = absurd (cc)
asked_along told least (y ∷ all) [] after reply a split waited =
    subst (λ ts. WasAsked ts reply.number reply.wanted) (sym (append-nil told))
    (subst (λ (r : Reply). r.waited ≡ true → WasAsked told r.number r.wanted) (heads y reply all after split) a.0 waited)
  where
    heads : (x y : Reply) (xs ys : List Reply) → x ∷ xs ≡ y ∷ ys → x ≡ y
    heads x y xs ys e = cc
asked_along told least (y ∷ all) (x ∷ before) after reply a split waited =
    subst (λ ts. WasAsked ts reply.number reply.wanted) (append_assoc told (y ∷ []) before ∙ ap (λ r. told ++ r ∷ before) (heads y x all _ split))
    (asked_along (told ++ y ∷ []) (cond y.waited least (suc y.number)) all before after reply a.2 (tails y x all _ split) waited)
  where
    heads : (x y : Reply) (xs ys : List Reply) → x ∷ xs ≡ y ∷ ys → x ≡ y
    heads x y xs ys e = cc

    tails : (x y : Reply) (xs ys : List Reply) → x ∷ xs ≡ y ∷ ys → xs ≡ ys
    tails x y xs ys e = cc

-- from a least number on
rises_later : (told : List Reply) (least : ℕ) (between after : List Reply) (second : Reply) → Along told least (between ++ second ∷ after)
    → second.waited ≡ false → least ≤ second.number
rises_later told least [] after second a first = a.1 first
rises_later told least (x ∷ between) after second a first =
    at x.waited refl (rises_later (told ++ x ∷ []) (cond x.waited least (suc x.number)) between after second a.2 first)
  where
    at : (b : Bool) → x.waited ≡ b → cond x.waited least (suc x.number) ≤ second.number → least ≤ second.number
    at true e more = subst (λ k. k ≤ second.number) (ap (λ b. cond b least (suc x.number)) e) more
    at false e more =
        let late = subst (λ k. k ≤ second.number) (ap (λ b. cond b least (suc x.number)) e) more in
        let here = a.1 e in
        omega (arith, late, here)

rises_along : (told : List Reply) (least : ℕ) (before between after : List Reply) (first second : Reply)
    → Along told least (before ++ first ∷ (between ++ second ∷ after)) → first.waited ≡ false → second.waited ≡ false → first.number < second.number
rises_along told least [] between after first second a asked also =
    subst (λ k. k ≤ second.number) (ap (λ b. cond b least (suc first.number)) asked)
    (rises_later (told ++ first ∷ []) (cond first.waited least (suc first.number)) between after second a.2 also)
rises_along told least (x ∷ before) between after first second a asked also =
    rises_along (told ++ x ∷ []) (cond x.waited least (suc x.number)) before between after first second a.2 asked also

pub requests_keep : (tries : List Try) → RequestsKeep (replies tries none_synced)
requests_keep tries = record {
  asked = λ before after reply split waited.
      asked_along [] 0 (replies tries none_synced) before after reply (all_along [] tries none_synced tt tt) split waited;
  numbered = λ before between after first second split asked also.
      rises_along [] 0 before between after first second (subst (Along [] 0) split (all_along [] tries none_synced tt tt)) asked also;
}
