-- Tasks that live, steps that are pending and sleeps that are named, by number and by place.
use Rattle.std.proofs.Common.{◌≡◌, ℕ, zero, suc, ◌<◌, ◌≤◌, ◌+◌, ◌⊎◌, inl, inr, Bool, true, false, cond, not, ◌&&◌, ◌==◌, List, [], ◌∷◌, Option, Some, None}
use Rattle.std.proofs.Common.{option_map, length, slice_get, refl, sym, ap, ◌∙◌, arith}
use Rattle.std.specs.List.{count_by}
use Rattle.std.specs.Option.{option_map_or}
use Rattle.std.proofs.lemmas.Bool.{eq-eqb, eqb-true, false≢true}
use Rattle.std.proofs.lemmas.List.Sums.{sum_by-cons}
use Rattle.std.proofs.lemmas.Option.{none-some}
use Rattle.model_value.specs.Action.{Action}
use Rattle.model_value.specs.declared.action.Action.TheVariants.{Step}
use Rattle.model_value.specs.Value.{Value}
use Rattle.model_loop.specs.Entries.{entries}
use Rattle.model_loop.specs.Futures.{is_pending, next_future}
use Rattle.model_loop.specs.Owning.{OwnsFutures, is_plain, owner_at, owner_of, own_future}
use Rattle.model_loop.specs.Parts.{Future, FutureKind, Plain, Handle, Parts, Task, Timer}
use Rattle.model_loop.specs.Tasks.{future_of, lives, next_task}
use Rattle.model_loop.specs.Totals.{pending_where}
use Rattle.model_loop.proofs.FutureCases.{is_plain_at, is_plain_kind}
use Rattle.model_machine.specs.Sound.{IsUnbegun, NamesItsSleep, ends_sleep_of}
use Rattle.law_cancel.proofs.Lookups.{get_within}
use Rattle.law_steps.proofs.Waiting.{task_there}
use Rattle.law_groups.proofs.Entries.{of_tag}
use Rattle.law_turns.specs.After.{is_step, IsAfter}

-- ---- lists
pub get_there : {X : Type 0} (xs : List X) (place : ℕ) → place < length xs → (x : X) × (slice_get xs place ≡ Some x)
get_there [] place h = absurd (omega (arith, h))
get_there (x ∷ xs) zero h = (x, refl)
get_there (x ∷ xs) (suc place) h = get_there xs place (omega (arith, h))

count_cons : {X : Type 0} (test : X → Bool) (x : X) (xs : List X) → count_by test (x ∷ xs) ≡ cond (test x) 1 0 + count_by test xs
count_cons test x xs = sum_by-cons (λ y. cond (test y) 1 0) x xs

pub count_at : {X : Type 0} (test : X → Bool) (xs : List X) (place : ℕ) (x : X) → slice_get xs place ≡ Some x → test x ≡ true
    → 0 < count_by test xs
count_at test [] place x e h = absurd (none-some x e)
count_at test (y ∷ xs) zero x e h =
    let c = count_cons test y xs in
    let same : y ≡ x = ap (λ o. option_map_or (λ z. z) o y) e in
    let o : ◌≡◌ {A = ℕ} (cond (test y) 1 0) 1 = ap (λ z. cond (test z) 1 0) same ∙ ap (λ b. cond b 1 0) h in
    omega (arith, c, o)
count_at test (y ∷ xs) (suc place) x e h =
    let c = count_cons test y xs in let ih = count_at test xs place x e h in omega (arith, c, ih)

pub record IsFound {X : Type 0} (test : X → Bool) (xs : List X) : Type 0 where
  pub place : ℕ
  pub it : X
  pub found : slice_get xs place ≡ Some it
  pub passes : test it ≡ true

pub count_found : {X : Type 0} (test : X → Bool) (xs : List X) → 0 < count_by test xs → IsFound test xs
count_found test [] h = absurd (omega (arith, h))
count_found test (x ∷ xs) h = at (test x) refl (λ k. count_found test xs k)
  where
    at : (b : Bool) → test x ≡ b → (0 < count_by test xs → IsFound test xs) → IsFound test (x ∷ xs)
    at true e ih = record { place = 0; it = x; found = refl; passes = e }
    at false e ih =
        let c = count_cons test x xs in
        let o : ◌≡◌ {A = ℕ} (cond (test x) 1 0) 0 = ap (λ b. cond b 1 0) e in
        let r = ih (omega (arith, c, o, h)) in
        record { place = suc r.place; it = r.it; found = r.found; passes = r.passes }

pub count_none : {X : Type 0} (test : X → Bool) (xs : List X) → ((place : ℕ) (x : X) → slice_get xs place ≡ Some x → test x ≡ false)
    → count_by test xs ≡ 0
count_none test [] none = refl
count_none test (x ∷ xs) none =
    let c = count_cons test x xs in
    let o : ◌≡◌ {A = ℕ} (cond (test x) 1 0) 0 = ap (λ b. cond b 1 0) (none 0 x refl) in
    let ih = count_none test xs (λ place y e. none (suc place) y e) in
    omega (arith, c, o, ih)

pub none_at : {X : Type 0} (test : X → Bool) (xs : List X) (place : ℕ) (x : X) → count_by test xs ≡ 0 → slice_get xs place ≡ Some x
    → test x ≡ false
none_at test xs place x none e = at (test x) refl
  where
    at : (b : Bool) → test x ≡ b → test x ≡ false
    at false h = h
    at true h = absurd (let c = count_at test xs place x e h in omega (arith, c, none))

pub and_first : (a b : Bool) → (a && b) ≡ true → a ≡ true
and_first true b h = refl
and_first false b h = absurd (false≢true h)

pub and_second : (a b : Bool) → (a && b) ≡ true → b ≡ true
and_second true b h = h
and_second false b h = absurd (false≢true h)

pub and_both : (a b : Bool) → a ≡ true → b ≡ true → (a && b) ≡ true
and_both a b x y = ap (λ c. c && b) x ∙ y

pub not_true : (a : Bool) → not a ≡ true → a ≡ false
not_true false h = refl
not_true true h = absurd (false≢true h)

pub not_false : (a : Bool) → a ≡ false → not a ≡ true
not_false a h = ap not h

-- ---- tasks
pub lives_within : (p : Parts) (task : ℕ) → lives p task ≡ true → task < next_task p
lives_within p task l = let it = task_there p task l in get_within p.tasks task it.0 it.1

pub own_there : (p : Parts) → OwnsFutures p → (task : ℕ) → task < next_task p → future_of p task < next_future p
own_there p owns task within =
    let it = get_there p.tasks task within in
    let own : own_future p task ≡ Some it.0.future = ap (option_map (λ (t : Task). t.future)) it.1 in
    let same : future_of p task ≡ it.0.future = ap (λ o. option_map_or (λ (t : Task). t.future) o (next_future p)) it.1 in
    let there : it.0.future < next_future p = at it.0.future ((owns it.0.future task).1 own) in
    omega (arith, same, there)
  where
    at : (id : ℕ) → owner_of p id ≡ Some task → id < next_future p
    at id e = go (slice_get p.futures id) refl e
      where
        go : (o : Option Future) → slice_get p.futures id ≡ o → owner_at o ≡ Some task → id < next_future p
        go None x y = absurd (none-some task y)
        go (Some future) x y = get_within p.futures id future x

pub lives_before : (test : Value → Bool) (grown : Bool) (excused : Option ℕ) (p q : Parts) → IsAfter test grown excused p q → OwnsFutures p → (task : ℕ)
    → task < next_task p → lives q task ≡ true → lives p task ≡ true
lives_before test grown excused p q a owns task within l = at (a.pends (future_of p task) (sym (ap (is_pending q) (a.owned task within)) ∙ l))
  where
    at : (is_pending p (future_of p task) ≡ true) ⊎ (next_future p ≤ future_of p task) → lives p task ≡ true
    at (inl h) = h
    at (inr h) = absurd (let there = own_there p owns task within in omega (arith, h, there))

-- ---- first steps
step_is : (task : ℕ) (action : Action) → is_step task action ≡ true → action ≡ Step task
step_is task (Step other) h = ap Step (eqb-true other task h)
step_is task _ h = absurd (false≢true h)

pub unbegun_count : (p : Parts) (task : ℕ) → IsUnbegun p task → 0 < pending_where (is_step task) p.pending
unbegun_count p task u =
    count_at (λ (h : Handle). not h.dead && is_step task h.action) p.pending u.place u.handle u.found
    (and_both (not u.handle.dead) (is_step task u.handle.action) (not_false u.handle.dead u.live)
    (ap (is_step task) u.steps ∙ eq-eqb task task refl))

pub count_unbegun : (p : Parts) (task : ℕ) → 0 < pending_where (is_step task) p.pending → IsUnbegun p task
count_unbegun p task h =
    let r = count_found (λ (h : Handle). not h.dead && is_step task h.action) p.pending h in
    record {
      place = r.place;
      handle = r.it;
      found = r.found;
      live = not_true r.it.dead (and_first (not r.it.dead) (is_step task r.it.action) r.passes);
      steps = step_is task r.it.action (and_second (not r.it.dead) (is_step task r.it.action) r.passes);
    }

pub unbegun_kept : (test : Value → Bool) (grown : Bool) (excused : Option ℕ) (p q : Parts) → IsAfter test grown excused p q → (task : ℕ)
    → pending_where (is_step task) p.pending ≤ pending_where (is_step task) q.pending → IsUnbegun p task → IsUnbegun q task
unbegun_kept test grown excused p q a task more u =
    count_unbegun q task (let c = unbegun_count p task u in omega (arith, c, more))

-- ---- sleeps
abbrev pub no_sleep_of : ℕ → ℕ → Action → Bool
no_sleep_of task tag action = not (ends_sleep_of task action)

pub sleep_none : (p : Parts) (task tag : ℕ) → NamesItsSleep p task tag → entries (of_tag tag (no_sleep_of task)) p ≡ 0
sleep_none p task tag is =
    let a = count_none (λ (h : Handle). not h.dead && of_tag tag (no_sleep_of task) h.tag h.action) p.pending (λ place h e.
    off h.dead h.tag (ends_sleep_of task h.action) (λ live same. is.pending place h e same live)) in
    let b = count_none (λ (t : Timer). of_tag tag (no_sleep_of task) t.tag t.action) p.timers (λ place t e.
    off false t.tag (ends_sleep_of task t.action) (λ live same. is.in_time place t e same)) in
    omega (arith, a, b)
  where
    off : (dead : Bool) (other : ℕ) (ends : Bool) → (dead ≡ false → other ≡ tag → ends ≡ true)
        → (not dead && ((other == tag) && not ends)) ≡ false
    off true other ends h = refl
    off false other ends h = at (other == tag) refl
      where
        at : (b : Bool) → (other == tag) ≡ b → (b && not ends) ≡ false
        at false e = refl
        at true e = ap not (h refl (eqb-true other tag e))

pub none_sleep : (p : Parts) (task tag : ℕ) → tag < p.next_tag → entries (of_tag tag (no_sleep_of task)) p ≡ 0 → NamesItsSleep p task tag
none_sleep p task tag below none = record {
  below = below;
  pending = λ place h e same live.
      on h.dead h.tag (ends_sleep_of task h.action) live same
      (none_at (λ (h : Handle). not h.dead && of_tag tag (no_sleep_of task) h.tag h.action) p.pending place h (omega (arith, none)) e);
  in_time = λ place t e same.
      on false t.tag (ends_sleep_of task t.action) refl same
      (none_at (λ (t : Timer). of_tag tag (no_sleep_of task) t.tag t.action) p.timers place t (omega (arith, none)) e);
}
  where
    on : (dead : Bool) (other : ℕ) (ends : Bool) → dead ≡ false → other ≡ tag → (not dead && ((other == tag) && not ends)) ≡ false
        → ends ≡ true
    on dead other true live same h = refl
    on dead other false live same h =
        absurd (false≢true (sym h ∙ ap (λ d. not d && ((other == tag) && true)) live ∙ ap (λ b. b && true) (eq-eqb other tag same)))

pub sleep_kept : (test : Value → Bool) (grown : Bool) (excused : Option ℕ) (p q : Parts) → IsAfter test grown excused p q → (task tag : ℕ)
    → NamesItsSleep p task tag → NamesItsSleep q task tag
sleep_kept test grown excused p q a task tag is =
    none_sleep q task tag (let n = a.next in let b = is.below in omega (arith, n, b))
    (let c = a.tags (no_sleep_of task) tag is.below in let d = sleep_none p task tag is in omega (arith, c, d))

-- ---- plain futures
pub plain_of : (p : Parts) (id : ℕ) → is_plain p id ≡ true → (future : Future) × (slice_get p.futures id ≡ Some future) × (future.kind ≡ Plain)
plain_of p id h = at (slice_get p.futures id) refl h
  where
    kind : (k : FutureKind) → is_plain_kind k ≡ true → k ≡ Plain
    kind Plain h = refl
    kind _ h = absurd (false≢true h)

    at : (o : Option Future) → slice_get p.futures id ≡ o → is_plain_at o ≡ true
        → (future : Future) × (slice_get p.futures id ≡ Some future) × (future.kind ≡ Plain)
    at None e h = absurd (false≢true h)
    at (Some future) e h = (future, e, kind future.kind h)

pub of_plain : (p : Parts) (id : ℕ) (future : Future) → slice_get p.futures id ≡ Some future → future.kind ≡ Plain → is_plain p id ≡ true
of_plain p id future e k = ap is_plain_at e ∙ ap is_plain_kind k
