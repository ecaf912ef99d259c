-- A timeout gets another deadline, or none: each timeout goes on having its tag, and no step or telling is lost.
use Rattle.std.proofs.Common.{◌≡◌, ℕ, ℤ, ◌+◌, ◌≤◌, ◌<◌, ◌⊎◌, Bool, true, false, cond, not, ◌==◌, Option, Some, None, length, nat_le, refl, ap, sym, subst, ◌∙◌}
use Rattle.std.proofs.Common.{inl, inr, arith, option_map}
use Rattle.std.proofs.Math.ListN.{length-set}
use Rattle.std.proofs.lemmas.Bool.{cases_eq, cases_Bool, cases_lt, false≢true, eq-eqb, ne_eqb, eqb-true, and_parts, and_from}
use Rattle.std.proofs.lemmas.List.{get_or-set_same, get_or-set_other, get_or_past}
use Rattle.std.proofs.lemmas.Option.{same_Some, none-some}
use Rattle.model_value.specs.Action.{Action}
use Rattle.model_value.specs.declared.action.Action.TheVariants.{Fires}
use Rattle.model_loop.proofs.TimeoutCases.{with_deadline, reschedule_where}
use Rattle.model_loop.specs.Parts.{Parts}
use Rattle.model_loop.specs.Loop.{Timeout, Loop, in_parts}
use Rattle.model_loop.specs.Handles.{soon, later, revoke}
use Rattle.model_loop.specs.Timeouts.{no_timeout, timeout_of, set_timeout, give_up, without_handle, schedule, is_active, reschedule, moment}
use Rattle.model_loop.specs.Deadlines.{fires, fires_any, fires_as, others_as, entries_at, HasTag}
use Rattle.model_loop.specs.Numbered.{IsNumbered}
use Rattle.law_changes.proofs.Numbering.{soon_numbers, later_numbers, revoke_numbers}
use Rattle.model_loop.specs.Entries.{entries}
use Rattle.law_groups.specs.Tags.{HaveTags}
use Rattle.law_groups.proofs.Entries.{of_tag, entries-soon, entries-later, entries-revoke, entries-fewer, entries-given}

pub timeout_same : (id : ℕ) (it : Timeout) (l : Loop) → id < length l.timeouts → timeout_of (set_timeout id it l) id ≡ it
timeout_same id it l within = get_or-set_same l.timeouts id it no_timeout within

pub timeout_other : (id j : ℕ) (it : Timeout) (l : Loop) → (id ≡ j → ⊥) → timeout_of (set_timeout id it l) j ≡ timeout_of l j
timeout_other id j it l n = get_or-set_other l.timeouts id j it no_timeout (λ e. n (sym e))

-- an action fires one timeout
pub fires_one : (a b : ℕ) (action : Action) → fires a action ≡ true → fires b action ≡ true → a ≡ b
fires_one a b (Fires other) x y = sym (eqb-true other a x) ∙ eqb-true other b y
fires_one a b _ x y = absurd (false≢true x)

zero_below : (a b : ℕ) → a ≤ b → b ≡ 0 → a ≡ 0
zero_below a b h e = omega (arith, h, e)

-- ---- the old handle is given up
module _ (id tag : ℕ) (l : Loop) (is : HaveTags l) (mine : (timeout_of l id).tag ≡ Some tag) where
  -- of another kind none has the tag
  apart : (test : ℕ → Action → Bool) → ((k : ℕ) (a : Action) → test k a ≡ true → fires id a ≡ false) → entries (of_tag tag test) l.parts ≡ 0
  apart test other =
      zero_below (entries (of_tag tag test) l.parts) (entries (others_as id tag) l.parts)
      (entries-fewer (of_tag tag test) (others_as id tag) l.parts
      (λ k a h. let x = and_parts (k == tag) (test k a) h in and_from (k == tag) (not (fires id a)) x.0 (ap not (other k a x.1))))
      ((is.tags id).own tag mine)

  pub kept_apart : (test : ℕ → Action → Bool) → ((k : ℕ) (a : Action) → test k a ≡ true → fires id a ≡ false)
      → entries test (revoke tag l.parts) ≡ entries test l.parts
  kept_apart test other = let a = entries-revoke test tag l.parts in let b = apart test other in omega (arith, a, b)

  gone : entries (fires_any id) (revoke tag l.parts) ≡ 0
  gone =
      let a = entries-revoke (fires_any id) tag l.parts in
      let b : entries (fires_any id) l.parts ≡ entries (fires_as id tag) l.parts = (is.tags id).held ∙ ap (entries_at l.parts id) mine in
      omega (arith, a, b)

  not_mine : (j : ℕ) → (id ≡ j → ⊥) → (a : Action) → fires j a ≡ true → fires id a ≡ false
  not_mine j n a h = go (cases_Bool (fires id a))
    where
      go : (fires id a ≡ true) ⊎ (fires id a ≡ false) → fires id a ≡ false
      go (inl x) = absurd (n (fires_one id j a x h))
      go (inr x) = x

  pub other_tag : (j : ℕ) → (id ≡ j → ⊥) → HasTag (revoke tag l.parts) j (timeout_of l j)
  other_tag j n = record {
    held = kept_apart (fires_any j) (λ k a h. not_mine j n a h) ∙ (is.tags j).held ∙ sym (at (timeout_of l j).tag);
    active = (is.tags j).active;
    below = (is.tags j).below;
    own = λ t e. let a = entries-revoke (others_as j t) tag l.parts in let b = (is.tags j).own t e in omega (arith, a, b);
  }
    where
      at : (o : Option ℕ) → entries_at (revoke tag l.parts) j o ≡ entries_at l.parts j o
      at None = refl
      at (Some t) = kept_apart (fires_as j t) (λ k a h. not_mine j n a (and_parts (k == t) (fires j a) h).1)

pub given_up : (id : ℕ) (l : Loop) → HaveTags l → (o : Option ℕ) → (timeout_of l id).tag ≡ o
    → (IsNumbered (give_up o l.parts)) × (entries (fires_any id) (give_up o l.parts) ≡ 0)
    × ((j : ℕ) → (id ≡ j → ⊥) → HasTag (give_up o l.parts) j (timeout_of l j))
given_up id l is None e = (is.numbered, (is.tags id).held ∙ ap (entries_at l.parts id) e, λ j n. is.tags j)
given_up id l is (Some tag) e = (revoke_numbers tag l.parts is.numbered, gone id tag l is e, other_tag id tag l is e)

-- a new handle of one timeout with the next tag leaves the others theirs
new_handle : (id : ℕ) (p q : Parts) → ((test : ℕ → Action → Bool) → entries test q ≡ entries test p + cond (test p.next_tag (Fires id)) 1 0)
    → q.next_tag ≡ p.next_tag + 1 → IsNumbered p → (j : ℕ) (it : Timeout) → (id ≡ j → ⊥) → HasTag p j it → HasTag q j it
new_handle id p q more next numbered j it n is = record {
  held = any ∙ is.held ∙ sym (at it.tag refl);
  active = is.active;
  below = λ t e. let b = is.below t e in omega (arith, b, next);
  own = λ t e.
      let b = is.below t e in
      let m : entries (others_as j t) q ≡ entries (others_as j t) p + 0 = more (others_as j t)
      ∙ rw (ne_eqb p.next_tag t (λ x. absurd (omega (arith, b, x)))) refl in
      let o = is.own t e in
      omega (arith, m, o);
}
  where
    any : entries (fires_any j) q ≡ entries (fires_any j) p
    any = let m : entries (fires_any j) q ≡ entries (fires_any j) p + 0 = more (fires_any j) ∙ rw (ne_eqb id j n) refl in omega (arith, m)

    at : (o : Option ℕ) → it.tag ≡ o → entries_at q j o ≡ entries_at p j o
    at None e = refl
    at (Some t) e =
        let b = is.below t e in
        let m : entries (fires_as j t) q ≡ entries (fires_as j t) p + 0 = more (fires_as j t)
        ∙ rw (ne_eqb p.next_tag t (λ x. absurd (omega (arith, b, x)))) refl in
        omega (arith, m)

its_handle : (id : ℕ) (p q : Parts) → ((test : ℕ → Action → Bool) → entries test q ≡ entries test p + cond (test p.next_tag (Fires id)) 1 0)
    → q.next_tag ≡ p.next_tag + 1 → IsNumbered p → entries (fires_any id) p ≡ 0 → (it : Timeout) → it.tag ≡ Some p.next_tag → is_active it.state ≡ true
    → HasTag q id it
its_handle id p q more next numbered none it e active = record {
  held =
      let a : entries (fires_any id) q ≡ entries (fires_any id) p + 1 = more (fires_any id) ∙ rw (eq-eqb id id refl) refl in
      let b : entries (fires_as id p.next_tag) q ≡ entries (fires_as id p.next_tag) p + 1 = more (fires_as id p.next_tag)
      ∙ rw (eq-eqb p.next_tag p.next_tag refl, eq-eqb id id refl) refl in
      let c : entries (fires_as id p.next_tag) p ≡ 0 = entries-given (fires_any id) p.next_tag p numbered (omega arith) in
      let d : entries_at q id it.tag ≡ entries (fires_as id p.next_tag) q = ap (entries_at q id) e in
      omega (arith, none, a, b, c, d);
  active = λ t x. active;
  below = λ t x. let y : t ≡ p.next_tag = sym (same_Some p.next_tag t (sym e ∙ x)) in omega (arith, next, y);
  own = λ t x.
      let y : p.next_tag ≡ t = same_Some p.next_tag t (sym e ∙ x) in
      subst (λ k. entries (others_as id k) q ≡ 0) y (
      let m : entries (others_as id p.next_tag) q ≡ entries (others_as id p.next_tag) p + 0 = more (others_as id p.next_tag)
      ∙ rw (eq-eqb p.next_tag p.next_tag refl, eq-eqb id id refl) refl in
      let c : entries (others_as id p.next_tag) p ≡ 0 = entries-given (λ k a. not (fires id a)) p.next_tag p numbered (omega arith) in
      omega (arith, m, c));
}

-- ---- another deadline
pub schedule_tags : (id : ℕ) (when : Option ℕ) (l : Loop) → id < length l.timeouts → is_active (timeout_of l id).state ≡ true → HaveTags l
    → HaveTags (schedule id when l)
schedule_tags id when l within active is = at when
  where
    l1 : Loop
    l1 = without_handle id l

    up : (IsNumbered (give_up (timeout_of l id).tag l.parts)) × (entries (fires_any id) (give_up (timeout_of l id).tag l.parts) ≡ 0)
        × ((j : ℕ) → (id ≡ j → ⊥) → HasTag (give_up (timeout_of l id).tag l.parts) j (timeout_of l j))
    up = given_up id l is (timeout_of l id).tag refl

    bare : timeout_of (without_handle id l) id ≡ record (timeout_of l id) { tag = None }
    bare = timeout_same id (record (timeout_of l id) { tag = None }) (in_parts (give_up (timeout_of l id).tag) l) within

    none : HaveTags (without_handle id l)
    none = record { numbered = up.0; tags = λ j. tags j (cases_eq id j) }
      where
        tags : (j : ℕ) → (id ≡ j) ⊎ (id ≡ j → ⊥) → HasTag (without_handle id l).parts j (timeout_of (without_handle id l) j)
        tags j (inl same) = subst (λ i. HasTag (without_handle id l).parts i (timeout_of (without_handle id l) i)) same
            (subst (HasTag (without_handle id l).parts id) (sym bare) (record {
              held = up.1;
              active = λ t e. absurd (none-some t e);
              below = λ t e. absurd (none-some t e);
              own = λ t e. absurd (none-some t e);
            }))
        tags j (inr n) = subst (HasTag (without_handle id l).parts j) (sym (timeout_other id j _ (in_parts (give_up (timeout_of l id).tag) l) n)) (up.2 j n)

    more : (q : Parts) →
        ((test : ℕ → Action → Bool)
        → entries test q ≡ entries test (without_handle id l).parts + cond (test (without_handle id l).parts.next_tag (Fires id)) 1 0)
        → q.next_tag ≡ (without_handle id l).parts.next_tag + 1 → IsNumbered q
        → HaveTags (set_timeout id (record (timeout_of (without_handle id l) id) { tag = Some (without_handle id l).parts.next_tag })
        (record (without_handle id l) { parts = q }))
    more q entered next numbered = record { numbered = numbered; tags = λ j. tags j (cases_eq id j) }
      where
        new : Timeout
        new = record (timeout_of (without_handle id l) id) { tag = Some (without_handle id l).parts.next_tag }

        w : id < length (without_handle id l).timeouts
        w = subst (λ (n : ℕ). id < n) (sym (length-set l.timeouts id _)) within

        still : is_active (timeout_of (without_handle id l) id).state ≡ true
        still = ap (λ (t : Timeout). is_active t.state) bare ∙ active

        tags : (j : ℕ) → (id ≡ j) ⊎ (id ≡ j → ⊥)
            → HasTag q j (timeout_of
            (set_timeout id (record (timeout_of (without_handle id l) id) { tag = Some (without_handle id l).parts.next_tag })
            (record (without_handle id l) { parts = q })) j)
        tags j (inl same) =
            subst (λ i. HasTag q i
            (timeout_of (set_timeout id (record (timeout_of (without_handle id l) id) { tag = Some (without_handle id l).parts.next_tag })
            (record (without_handle id l) { parts = q })) i)) same
            (subst (HasTag q id) (sym (timeout_same id _ (record (without_handle id l) { parts = q }) w))
            (its_handle id (without_handle id l).parts q entered next none.numbered up.1
            (record (timeout_of (without_handle id l) id) { tag = Some (without_handle id l).parts.next_tag }) refl still))
        tags j (inr n) =
            subst (HasTag q j) (sym (timeout_other id j _ (record (without_handle id l) { parts = q }) n))
            (new_handle id (without_handle id l).parts q entered next none.numbered j (timeout_of (without_handle id l) j) n (none.tags j))

    soon_case : HaveTags
        (set_timeout id (record (timeout_of (without_handle id l) id) { tag = Some (without_handle id l).parts.next_tag })
        (record (without_handle id l) { parts = soon (Fires id) (without_handle id l).parts }))
    soon_case = more _ (λ test. entries-soon test (Fires id) (without_handle id l).parts) refl
        (soon_numbers (Fires id) (without_handle id l).parts none.numbered)

    timed : (k : ℕ) (b : Bool)
        → HaveTags (set_timeout id (record (timeout_of (without_handle id l) id) { tag = Some (without_handle id l).parts.next_tag })
        (record (without_handle id l) { parts = cond b (soon (Fires id) (without_handle id l).parts) (later k (Fires id) (without_handle id l).parts) }))
    timed k true = soon_case
    timed k false = more _ (λ test. entries-later test k (Fires id) (without_handle id l).parts) refl
        (later_numbers k (Fires id) (without_handle id l).parts none.numbered)

    at : (when : Option ℕ) → HaveTags (with_deadline id when (without_handle id l))
    at None = none
    at (Some k) = timed k (nat_le k (without_handle id l).parts.time)

pub reschedule_tags : (id : ℕ) (when : Option ℤ) (l : Loop) → HaveTags l → HaveTags (reschedule id when l)
reschedule_tags id when l is = at (is_active (timeout_of l id).state) refl
  where
    within : is_active (timeout_of l id).state ≡ true → id < length l.timeouts
    within a = go (cases_lt id (length l.timeouts))
      where
        go : (id < length l.timeouts) ⊎ (length l.timeouts ≤ id) → id < length l.timeouts
        go (inl x) = x
        go (inr past) = absurd (false≢true (sym (ap (λ (t : Timeout). is_active t.state) (get_or_past l.timeouts id no_timeout past)) ∙ a))

    at : (b : Bool) → is_active (timeout_of l id).state ≡ b → HaveTags (reschedule_where b id when l)
    at true e = schedule_tags id (option_map moment when) l (within e) e is
    at false e = is
