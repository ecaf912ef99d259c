-- What steps do to the room that a request needs.
use Rattle.std.proofs.Common.{◌≡◌, ℕ, zero, suc, ◌+◌, ◌<◌, ◌≤◌, ◌⊎◌, Bool, true, false, ◌||◌, cond, List, [], ◌∷◌, ◌++◌, Option, Some, None, length, slice_get}
use Rattle.std.proofs.Common.{slice_set, nat_eq, refl, ap, sym, subst, ◌∙◌, arith, inl, inr, length-append}
use Rattle.std.proofs.Math.ListN.{length-set}
use Rattle.std.specs.Option.{option_map_or}
use Rattle.std.proofs.lemmas.Bool.{cases_eq, eq-eqb, ne_eqb, false≢true}
use Rattle.model_value.specs.Action.{Action}
use Rattle.model_value.specs.declared.outcome.Outcome.TheVariants.{Cancelled}
use Rattle.model_value.specs.Value.{Outcome}
use Rattle.model_loop.specs.Parts.{FutureKind, Plain, OfTask, Many, Future, Task, Parts}
use Rattle.model_loop.specs.Futures.{with_future, settle, register, mark_asked, make_future, asked_kind}
use Rattle.model_loop.specs.Tasks.{change_task}
use Rattle.model_loop.specs.Cancel.{cancel}
use Rattle.model_loop.proofs.FutureCases.{registered, registered_on, settled, settled_as}
use Rattle.law_cancel.proofs.Lookups.{get-set_kept, get-set_other, get-push_last, get-push_other, get_within}
use Rattle.law_cancel.proofs.Effects.{soon_all-futures, settle-futures, done_as, asked_as, change_task-futures}
use Rattle.law_cancel.proofs.Trace.{Goes, begins, settles, asks, raises, sets_must_cancel, with_row}
use Rattle.algorithm_parts.specs.Released.{released}
use Rattle.algorithm_parts.specs.Open.{is_inner_kind, is_inner_until, is_inner_at, is_inner, others, room_of}
use Rattle.algorithm_parts.proofs.OpenLemmas.{others-cons}

others-same : (f g : ℕ → Bool) (n : ℕ) → ((j : ℕ) → j < n → f j ≡ g j) → others f n [] ≡ others g n []
others-same f g zero h = refl
others-same f g (suc n) h =
    let ih : others f n [] ≡ others g n [] = others-same f g n (λ j l. h j (omega arith)) in
    rw (h n (omega arith), ih) refl

others-fewer : (f g : ℕ → Bool) (n : ℕ) → ((j : ℕ) → f j ≡ true → g j ≡ true) → others f n [] ≤ others g n []
others-fewer f g zero h = omega arith
others-fewer f g (suc n) h = let ih = others-fewer f g n h in let a = go (f n) (g n) (h n) in omega arith
  where
    go : (a b : Bool) → (a ≡ true → b ≡ true) → cond a 1 0 ≤ cond b 1 0
    go false b i = elim b as (λ x. 0 ≤ cond x 1 0) [ true ↦ omega arith | false ↦ omega arith ]
    go true b i = rw (i refl) (omega arith)

-- a future of which no more is known by that than before
room_set : (fs : List Future) (id : ℕ) (old new : Future) → slice_get fs id ≡ Some old → is_inner_at (Some new) ≡ is_inner_at (Some old)
    → others (λ j. is_inner_at (slice_get (slice_set fs id new) j)) (length (slice_set fs id new)) []
    ≡ others (λ j. is_inner_at (slice_get fs j)) (length fs) []
room_set fs id old new e k =
    ap (λ n. others (λ j. is_inner_at (slice_get (slice_set fs id new) j)) n []) (length-set fs id new)
    ∙ others-same (λ j. is_inner_at (slice_get (slice_set fs id new) j)) (λ j. is_inner_at (slice_get fs j)) (length fs)
    (λ j l. get-set_kept is_inner_at fs id j old new e k)

-- one that is done, or plain, takes no room
past : (fs : List Future) (i : ℕ) (new : Future) → is_inner_at (Some new) ≡ false → is_inner_at (slice_get (slice_set fs i new) i) ≡ false
past [] i new n = refl
past (f ∷ fs) zero new n = n
past (f ∷ fs) (suc i) new n = past fs i new n

room_less : (fs : List Future) (id : ℕ) (new : Future) → is_inner_at (Some new) ≡ false
    → others (λ j. is_inner_at (slice_get (slice_set fs id new) j)) (length (slice_set fs id new)) []
    ≤ others (λ j. is_inner_at (slice_get fs j)) (length fs) []
room_less fs id new n =
    let a = others-fewer (λ j. is_inner_at (slice_get (slice_set fs id new) j)) (λ j. is_inner_at (slice_get fs j))
    (length fs) (λ j h. go j (cases_eq id j) h) in
    rw (length-set fs id new) a
  where
    go : (j : ℕ) → (id ≡ j) ⊎ (id ≡ j → ⊥) → is_inner_at (slice_get (slice_set fs id new) j) ≡ true → is_inner_at (slice_get fs j) ≡ true
    go j (inl e) h = let f : is_inner_at (slice_get (slice_set fs j new) j) ≡ true = rw e at h in let g = past fs j new n in absurd (cc)
    go j (inr m) h = sym (ap is_inner_at (get-set_other fs id j new m)) ∙ h

-- and leaves the room of one, where it took that
others-without : (f g : ℕ → Bool) (n id : ℕ) → f id ≡ false → ((j : ℕ) → (id ≡ j → ⊥) → f j ≡ g j)
    → others f n [] ≡ others g n (id ∷ [])
others-without f g zero id none same = refl
others-without f g (suc n) id none same = go (cases_eq n id) (others-without f g n id none same)
  where
    go : (n ≡ id) ⊎ (n ≡ id → ⊥) → others f n [] ≡ others g n (id ∷ [])
        → cond false 0 (cond (f n) 1 0) + others f n [] ≡ cond (nat_eq n id || false) 0 (cond (g n) 1 0) + others g n (id ∷ [])
    go (inl e) ih = let d : f n ≡ false = rw e none in rw (eq-eqb n id e, d, ih) refl
    go (inr m) ih = rw (ne_eqb n id m, same n (λ e. m (sym e)), ih) refl

room_left : (fs : List Future) (id : ℕ) (new : Future) → is_inner_at (Some new) ≡ false → is_inner_at (slice_get fs id) ≡ true
    → others (λ j. is_inner_at (slice_get (slice_set fs id new) j)) (length (slice_set fs id new)) [] + 1
    ≡ others (λ j. is_inner_at (slice_get fs j)) (length fs) []
room_left fs id new n was =
    let a : others (λ j. is_inner_at (slice_get (slice_set fs id new) j)) (length fs) []
    ≡ others (λ j. is_inner_at (slice_get fs j)) (length fs) (id ∷ []) =
    others-without (λ j. is_inner_at (slice_get (slice_set fs id new) j)) (λ j. is_inner_at (slice_get fs j)) (length fs) id
    (past fs id new n) (λ j m. ap is_inner_at (get-set_other fs id j new m)) in
    let b = others-cons (λ j. is_inner_at (slice_get fs j)) (length fs) [] id (there (slice_get fs id) refl was) refl was in
    rw (length-set fs id new) (ap (λ n. n + 1) a ∙ b)
  where
    there : (o : Option Future) → slice_get fs id ≡ o → is_inner_at o ≡ true → id < length fs
    there None e h = absurd (cc)
    there (Some future) e h = get_within fs id future e

pub settle-room : (id : ℕ) (outcome : Outcome) (p : Parts) → room_of (settle id outcome p) ≤ room_of p
settle-room id outcome p = at (slice_get p.futures id) refl
  where
    until : (future : Future) → slice_get p.futures id ≡ Some future → (o : Option Outcome)
        → room_of (settled_as o id future outcome p) ≤ room_of p
    until future e (Some done) = omega arith
    until future e None =
        subst (λ n. n ≤ room_of p)
        (sym (ap (λ (fs : List Future). others (λ j. is_inner_at (slice_get fs j)) (length fs) [])
        (soon_all-futures future.callbacks (with_future id (done_as outcome future) p))))
        (room_less p.futures id (done_as outcome future) refl)

    at : (o : Option Future) → slice_get p.futures id ≡ o → room_of (settled o id outcome p) ≤ room_of p
    at None e = omega arith
    at (Some future) e = until future e future.outcome

-- the end of one that took room gives it back
pub end-room : (id : ℕ) (outcome : Outcome) (p : Parts) → is_inner p id ≡ true → room_of (settle id outcome p) + 1 ≡ room_of p
end-room id outcome p was = at (slice_get p.futures id) refl was
  where
    until : (future : Future) → slice_get p.futures id ≡ Some future → (o : Option Outcome) → is_inner_until o future.kind ≡ true
        → room_of (settled_as o id future outcome p) + 1 ≡ room_of p
    until future e (Some done) h = absurd (false≢true h)
    until future e None h =
        ap (λ (fs : List Future). others (λ j. is_inner_at (slice_get fs j)) (length fs) [] + 1)
        (soon_all-futures future.callbacks (with_future id (done_as outcome future) p))
        ∙ room_left p.futures id (done_as outcome future) refl was

    at : (o : Option Future) → slice_get p.futures id ≡ o → is_inner_at o ≡ true → room_of (settled o id outcome p) + 1 ≡ room_of p
    at None e h = absurd (false≢true h)
    at (Some future) e h = until future e future.outcome h

-- a plain one takes none
plain-room : (id : ℕ) (outcome : Outcome) (p : Parts) (future : Future) → slice_get p.futures id ≡ Some future → future.outcome ≡ None
    → future.kind ≡ Plain → room_of (settle id outcome p) ≡ room_of p
plain-room id outcome p future e o k =
    ap (λ (fs : List Future). others (λ j. is_inner_at (slice_get fs j)) (length fs) []) (settle-futures id outcome p future e o)
    ∙ room_set p.futures id future (done_as outcome future) e (rw (o, k) refl)

pub register-room : (id : ℕ) (action : Action) (p : Parts) → room_of (register id action p) ≡ room_of p
register-room id action p = at (slice_get p.futures id) refl
  where
    until : (future : Future) → slice_get p.futures id ≡ Some future → (o : Option Outcome)
        → room_of (registered_on o id future action p) ≡ room_of p
    until future e (Some done) = refl
    until future e None =
        room_set p.futures id future (record future { callbacks = future.callbacks ++ action ∷ [] }) e refl

    at : (o : Option Future) → slice_get p.futures id ≡ o → room_of (registered o id action p) ≡ room_of p
    at None e = refl
    at (Some future) e = until future e future.outcome

asked_inner : (o : Option Outcome) (k : FutureKind) → is_inner_until o (asked_kind k) ≡ is_inner_until o k
asked_inner (Some done) k = refl
asked_inner None Plain = refl
asked_inner None (OfTask task) = refl
asked_inner None (Many members asked) = refl

pub ask-room : (id : ℕ) (p : Parts) → room_of (mark_asked id p) ≡ room_of p
ask-room id p = at (slice_get p.futures id) refl
  where
    at : (o : Option Future) → slice_get p.futures id ≡ o
        → room_of (option_map_or (λ (f : Future). with_future id (asked_as f) p) o p) ≡ room_of p
    at None e = refl
    at (Some future) e = room_set p.futures id future (asked_as future) e (asked_inner future.outcome future.kind)

pub change-room : (id : ℕ) (change : Task → Task) (p : Parts) → room_of (change_task id change p) ≡ room_of p
change-room id change p =
    ap (λ (fs : List Future). others (λ j. is_inner_at (slice_get fs j)) (length fs) []) (change_task-futures id change p)

goes-room : {s : List ℕ} {p : Parts} {t : List ℕ} {q : Parts} → Goes s p t q → room_of q ≡ room_of p
goes-room begins = refl
goes-room (settles {q = q} g id future e o k) = plain-room id Cancelled q future e o k ∙ goes-room g
goes-room (asks {q = q} g id future members asked e o k) = ask-room id q ∙ goes-room g
goes-room (raises {q = q} g id task n e) = change-room id _ q ∙ goes-room g
goes-room (sets_must_cancel {q = q} g id) = change-room id _ q ∙ goes-room g

pub cancel-room : (id : ℕ) (p : Parts) → room_of (cancel id p).parts ≡ room_of p
cancel-room id p = goes-room (with_row id [] p)

-- a new future
pub make-room : (kind : FutureKind) (p : Parts) → room_of (make_future kind p) ≡ room_of p + cond (is_inner_kind kind) 1 0
make-room kind p =
    let new : Future = record { kind = kind; outcome = None; callbacks = [] } in
    let fs = p.futures in
    let l : length (fs ++ new ∷ []) ≡ suc (length fs) = length-append fs (new ∷ []) ∙ omega arith in
    let same : others (λ j. is_inner_at (slice_get (fs ++ new ∷ []) j)) (length fs) [] ≡ others (λ j. is_inner_at (slice_get fs j)) (length fs) [] =
    others-same (λ j. is_inner_at (slice_get (fs ++ new ∷ []) j)) (λ j. is_inner_at (slice_get fs j)) (length fs)
    (λ j b. ap is_inner_at (get-push_other fs new j (omega arith))) in
    let last : is_inner_at (slice_get (fs ++ new ∷ []) (length fs)) ≡ is_inner_kind kind = ap is_inner_at (get-push_last fs new) in
    rw l (rw (last, same) (omega arith))

-- a future that is released
pub release-room : (id : ℕ) (p : Parts) → room_of (with_future id released p) ≤ room_of p
release-room id p = room_less p.futures id released refl

-- which gives its room back, where it took that
pub let_go-room : (id : ℕ) (p : Parts) → is_inner p id ≡ true → room_of (with_future id released p) + 1 ≡ room_of p
let_go-room id p was = room_left p.futures id released refl was
