-- A new timer's tag is one that was not given before, and names a handle of what is added alone.
use Rattle.std.proofs.Common.{◌≡◌, ℕ, zero, suc, ◌+◌, ◌<◌, Bool, true, false, cond, not, List, [], ◌∷◌, ◌++◌, Option, Some, None, length, slice_get, refl, ap, ◌∙◌, arith, length-append, length-set}
use Rattle.std.specs.Prelude.{filter, is_none, ◌&&◌, ◌==◌}
use Rattle.std.specs.List.{AllByRecursion as Each}
use Rattle.model_value.specs.Action.{Action}
use Rattle.model_value.specs.Value.{Outcome}
use Rattle.model_value.specs.declared.action.Action.TheVariants as action
use Rattle.model_loop.specs.Futures.{is_pending, is_pending_at, make_future, next_future, register, with_future}
use Rattle.model_loop.specs.Handles.{later, soon}
use Rattle.model_loop.specs.Loop.{Loop}
use Rattle.model_loop.specs.Numbered.{IsNumbered}
use Rattle.model_loop.specs.Parts.{Future, FutureKind, Parts}
use Rattle.model_machine.specs.Extra.{ExtraStep, Registers, made_by, made_by_all}
use Rattle.model_machine.specs.Sound.{IsTagOwned, is_extra, no_extra_as}
use Rattle.law_cancel.proofs.Lookups.{get-push_other, get-set_kept}
use Rattle.law_groups.proofs.Entries.{entries-given, entries-later}
use Rattle.law_runs.specs.Allowed.{AreAllowed, Owns}
use Rattle.model_reach.specs.Part.{key_at}
use Rattle.model_gather.specs.Gathered.{registered_from}
use Rattle.law_gather.proofs.Lists.{each_on}

-- ---- its tag is new
off : (b : Bool) → ◌≡◌ {A = ℕ} (cond (b && false) 1 0) 0
off true = refl
off false = refl

pub later_owned : (when key : ℕ) (p : Parts) → IsNumbered p → IsTagOwned (later when (action.Extra key) p) p.next_tag
later_owned when key p numbered = (
  omega arith,
  let a = entries-later (no_extra_as p.next_tag) when (action.Extra key) p in
      let z = off (p.next_tag == p.next_tag) in
      let n = entries-given (λ k it. not (is_extra it)) p.next_tag p numbered (omega arith) in
      omega (arith, a, z, n),
)

-- ---- which tag it is, behind handles that are registered
abbrev at_outcome : Option Outcome → Future → ℕ → Action → Parts → Parts
at_outcome o future id it p =
    elim o [ Some done ↦ soon it p | None ↦ with_future id (record future { callbacks = future.callbacks ++ it ∷ [] }) p ]

abbrev at_future : Option Future → ℕ → Action → Parts → Parts
at_future o id it p = elim o [ None ↦ p | Some future ↦ at_outcome future.outcome future id it p ]

registered_pends : (id : ℕ) (it : Action) (p : Parts) (j : ℕ) → is_pending (register id it p) j ≡ is_pending p j
registered_pends id it p j = at (slice_get p.futures id) refl
  where
    until : (future : Future) → slice_get p.futures id ≡ Some future → (o : Option Outcome)
        → is_pending_at (Some (record future { callbacks = future.callbacks ++ it ∷ [] })) ≡ is_pending_at (Some future)
        → is_pending (at_outcome o future id it p) j ≡ is_pending p j
    until future e (Some done) same = refl
    until future e None same = get-set_kept is_pending_at p.futures id j future (record future { callbacks = future.callbacks ++ it ∷ [] }) e same

    at : (o : Option Future) → slice_get p.futures id ≡ o → is_pending (at_future o id it p) j ≡ is_pending p j
    at None e = refl
    at (Some future) e = until future e future.outcome refl

registered_tag : (id : ℕ) (it : Action) (p : Parts) → id < next_future p
    → (register id it p).next_tag ≡ p.next_tag + cond (not (is_pending p id)) 1 0
registered_tag id it p within = at (slice_get p.futures id) (there p.futures id within)
  where
    there : (futures : List Future) (id : ℕ) → id < length futures → slice_get futures id ≡ None → ⊥
    there [] id h e = absurd (omega (arith, h))
    there (x ∷ xs) zero h e = absurd (cc)
    there (x ∷ xs) (suc id) h e = there xs id (omega (arith, h)) e

    until : (future : Future) (o : Option Outcome)
        → (at_outcome o future id it p).next_tag ≡ p.next_tag + cond (not (is_none o)) 1 0
    until future (Some done) = refl
    until future None = omega arith

    at : (o : Option Future) → (o ≡ None → ⊥) → (at_future o id it p).next_tag ≡ p.next_tag + cond (not (is_pending_at o)) 1 0
    at None some = absurd (some refl)
    at (Some future) some = until future future.outcome

length_registered : (id : ℕ) (it : Action) (p : Parts) → next_future (register id it p) ≡ next_future p
length_registered id it p = at (slice_get p.futures id)
  where
    until : (future : Future) (o : Option Outcome) → next_future (at_outcome o future id it p) ≡ next_future p
    until future (Some done) = refl
    until future None = length-set p.futures id (record future { callbacks = future.callbacks ++ it ∷ [] })

    at : (o : Option Future) → next_future (at_future o id it p) ≡ next_future p
    at None = refl
    at (Some future) = until future future.outcome

filter_same : (test other : ℕ → Bool) (ids : List ℕ) → Each (λ id. test id ≡ other id) ids → filter test ids ≡ filter other ids
filter_same test other [] same = refl
filter_same test other (id ∷ ids) same =
    ap (λ b. cond b (id ∷ filter test ids) (filter test ids)) same.0
    ∙ ap (λ rest. cond (other id) (id ∷ rest) rest) (filter_same test other ids same.1)

each_of : (P : ℕ → Type 0) → ((id : ℕ) → P id) → (ids : List ℕ) → Each P ids
each_of P all [] = tt
each_of P all (id ∷ ids) = (all id, each_of P all ids)

length_filter : (test : ℕ → Bool) (id : ℕ) (ids : List ℕ) → length (filter test (id ∷ ids)) ≡ cond (test id) 1 0 + length (filter test ids)
length_filter test id ids = at (test id)
  where
    at : (b : Bool) → length (cond b (id ∷ filter test ids) (filter test ids)) ≡ cond b 1 0 + length (filter test ids)
    at true = omega arith
    at false = omega arith

tags_counted : (part place : ℕ) (ids : List ℕ) (l : Loop) → Each (λ id. id < next_future l.parts) ids
    → (made_by_all (registered_from part place ids) l).parts.next_tag
    ≡ l.parts.next_tag + length (filter (λ id. not (is_pending l.parts id)) ids)
tags_counted part place [] l made = omega arith
tags_counted part place (id ∷ ids) l made =
    let it = action.Extra (key_at part place) in
    let next = made_by (Registers id (key_at part place)) l in
    let f = length_registered id it l.parts in
    let rest = tags_counted part (suc place) ids next
    (each_on (λ k. k < next_future l.parts) (λ k. k < next_future next.parts) (λ k h. omega (arith, h, f)) ids made.1) in
    let first = registered_tag id it l.parts made.0 in
    let same = ap length (filter_same (λ k. not (is_pending next.parts k)) (λ k. not (is_pending l.parts k)) ids
    (each_of (λ k. not (is_pending next.parts k) ≡ not (is_pending l.parts k)) (λ k. ap not (registered_pends id it l.parts k)) ids)) in
    let more = length_filter (λ k. not (is_pending l.parts k)) id ids in
    omega (arith, rest, first, same, more)

-- and behind a future that is made
pub counted_tags : (kind : FutureKind) (part place : ℕ) (ids : List ℕ) (l m : Loop) → m ≡ record l { parts = make_future kind l.parts }
    → Each (λ id. id < next_future l.parts) ids
    → (made_by_all (registered_from part place ids) m).parts.next_tag
    ≡ l.parts.next_tag + length (filter (λ id. not (is_pending l.parts id)) ids)
counted_tags kind part place ids l m e made =
    let q = make_future kind l.parts in
    let f : next_future q ≡ next_future l.parts + 1 = length-append l.parts.futures (record { kind = kind; outcome = None; callbacks = [] } ∷ []) in
    let c = tags_counted part place ids (record l { parts = q })
    (each_on (λ k. k < next_future l.parts) (λ k. k < next_future q) (λ k h. omega (arith, h, f)) ids made) in
    ap (λ (x : Loop). (made_by_all (registered_from part place ids) x).parts.next_tag) e
    ∙ c
    ∙ ap (λ those. l.parts.next_tag + length those) (filter_same (λ k. not (is_pending q k)) (λ k. not (is_pending l.parts k)) ids
    (each_on (λ k. k < next_future l.parts) (λ k. not (is_pending q k) ≡ not (is_pending l.parts k)) (λ k h.
    ap (λ o. not (is_pending_at o)) (get-push_other l.parts.futures (record { kind = kind; outcome = None; callbacks = [] }) k (λ x. absurd (omega (arith, h, x)))))
    ids made))

-- ---- steps, one part after another
pub made_then : (xs ys : List ExtraStep) (l : Loop) → made_by_all (xs ++ ys) l ≡ made_by_all ys (made_by_all xs l)
made_then [] ys l = refl
made_then (x ∷ xs) ys l = made_then xs ys (made_by x l)

pub allowed_left : (own : Owns) (xs ys : List ExtraStep) (l : Loop) → AreAllowed own (xs ++ ys) l → AreAllowed own xs l
allowed_left own [] ys l ok = tt
allowed_left own (x ∷ xs) ys l ok = (ok.0, allowed_left own xs ys (made_by x l) ok.1)
