-- A task is made in a group: it is registered with its own future, and the whole stays sound.
use Rattle.std.proofs.Common.{◌≡◌, ℕ, ◌+◌, ◌≤◌, ◌<◌, ◌⊎◌, Bool, true, false, cond, not, ◌&&◌, ◌==◌, List, [], ◌∷◌, ◌++◌, Option, Some, None, length, nat_eq}
use Rattle.std.proofs.Common.{option_map, slice_get, refl, ap, sym, subst, ◌∙◌, inl, inr, arith, length-append}
use Rattle.std.proofs.lemmas.Bool.{cases_eq, cases_Bool, cases_lt, false≢true, eq-eqb, ne_eqb, eqb-true}
use Rattle.std.proofs.lemmas.List.{get_or_past}
use Rattle.std.proofs.lemmas.Option.{none-some, slice_get_past}
use Rattle.std.proofs.lemmas.List.Sums.{sum_by_push}
use Rattle.std.specs.List.{count_by}
use Rattle.std.specs.Option.{option_map_or}
use Rattle.model_value.specs.declared.action.Action.TheVariants.{GroupDone}
use Rattle.model_loop.proofs.GroupCases.{create_unless}
use Rattle.model_loop.specs.Parts.{OfTask, Future, Task, Parts}
use Rattle.model_loop.specs.Loop.{Group, Loop, in_parts}
use Rattle.model_loop.specs.Futures.{outcome_at, future_outcome, with_future, next_future}
use Rattle.model_loop.specs.Tasks.{next_task, lives, future_of, spawn}
use Rattle.model_loop.specs.Groups.{new_group, group_of, set_group, Refusal, NotEntered, IsFinished, refusal, with_child, create, failure_in, failure_of}
use Rattle.model_loop.specs.Children.{tells, IsTold, HasErrors, body_at_end, HasPlainExit}
use Rattle.model_loop.specs.Numbered.{occurrences}
use Rattle.model_loop.specs.Totals.{callbacks_of, callbacks_at, pending_where, registered_at, total, IsAtHome}
use Rattle.law_cancel.proofs.Lookups.{get-set_same, get-set_other}
use Rattle.model_loop.specs.Owning.{own_future}
use Rattle.model_loop.specs.Sound.{ArePartsSound}
use Rattle.model_loop.proofs.FutureCases.{is_plain_at, registered}
use Rattle.law_groups.specs.Holds.{Holds}
use Rattle.law_steps.proofs.Looks.{future_of-owned}
use Rattle.law_groups.proofs.Told.{failures_kept, own_is}
use Rattle.law_groups.proofs.Holding.{Fits, holds_each, group_same, group_other}
use Rattle.law_steps.proofs.Spawning.{spawn_sound, new_future, old_future, new_task, old_task, no_task, no_future, called, live_in, new_lived_not, old_lives}
use Rattle.law_steps.proofs.Registering.{callback_living, callback_sound}
use Rattle.law_steps.proofs.CancelSound.{plain_within}

-- ---- the task is made in a group that isn't refused
module _ (running excused : Option ℕ) (told : ℕ → List ℕ) (id : ℕ) (l : Loop) (is : Holds running excused told told (group_of l) l.parts)
    (allowed : refusal (group_of l id) ≡ None) where
  abbrev p : Parts
  p = l.parts

  abbrev n : ℕ
  n = next_task l.parts

  abbrev m : ℕ
  m = next_future l.parts

  abbrev new : Future
  new = record { kind = OfTask (next_task l.parts); outcome = None; callbacks = GroupDone id (next_task l.parts) ∷ [] }

  abbrev q : Parts
  q = with_future (next_future l.parts) new (spawn l.parts)

  is_q : with_child id l.parts ≡ q
  is_q = ap (λ o. registered o (next_future l.parts) (GroupDone id (next_task l.parts)) (spawn l.parts)) (new_future running excused l.parts is.parts)

  at_new : slice_get q.futures m ≡ Some new
  at_new = get-set_same (spawn l.parts).futures m _ new (new_future running excused l.parts is.parts)

  at_old : (j : ℕ) → (j ≡ m → ⊥) → slice_get q.futures j ≡ slice_get p.futures j
  at_old j k = get-set_other (spawn l.parts).futures m j new (λ e. k (sym e)) ∙ old_future running excused l.parts is.parts j k

  sound : ArePartsSound running excused q
  sound = callback_sound running excused (spawn l.parts) m _ (GroupDone id (next_task l.parts)) (new_future running excused l.parts is.parts) refl
      (λ t. refl) refl (spawn_sound running excused l.parts is.parts)

  lives_old : (t : ℕ) → (t ≡ n → ⊥) → lives q t ≡ lives p t
  lives_old t k = callback_living running excused (spawn l.parts) m _ (GroupDone id (next_task l.parts)) (new_future running excused l.parts is.parts) refl
      (λ t. refl) refl (spawn_sound running excused l.parts is.parts) t ∙ old_lives running excused l.parts is.parts t k

  own_new : own_future q n ≡ Some m
  own_new = ap (option_map (λ (x : Task). x.future)) (new_task running excused l.parts is.parts)

  own_old : (t : ℕ) → (t ≡ n → ⊥) → own_future q t ≡ own_future p t
  own_old t k = ap (option_map (λ (x : Task). x.future)) (old_task running excused l.parts is.parts t k)

  own_none : own_future p n ≡ None
  own_none = ap (option_map (λ (x : Task). x.future)) (no_task running excused l.parts is.parts)

  pending_same : (group t : ℕ) → pending_where (tells group t) q.pending ≡ pending_where (tells group t) p.pending
  pending_same group t = let c = called running excused l.parts is.parts (tells group t) in omega (arith, c)

  not_made : (group : ℕ) → occurrences n (group_of l group).made ≡ 0
  not_made group = go (cases_lt 0 (occurrences n (group_of l group).made))
    where
      go : (0 < occurrences n (group_of l group).made) ⊎ (occurrences n (group_of l group).made ≤ 0) → occurrences n (group_of l group).made ≡ 0
      go (inl h) = let x = (is.tellings group).made_below n (omega (arith, h)) in absurd (omega (arith, x))
      go (inr h) = omega (arith, h)

  not_child : (group : ℕ) → occurrences n (group_of l group).children ≡ 0
  not_child group = let a = not_made group in let b = (is.kept group).child_or_told n in omega (arith, a, b)

  none_pending : (group : ℕ) → pending_where (tells group n) p.pending ≡ 0
  none_pending group =
      let a : pending_where (tells group n) p.pending + 0 ≡ occurrences n (group_of l group).children =
      ap (λ o. pending_where (tells group n) p.pending + registered_at p (tells group n) o) (sym own_none) ∙ (is.tellings group).tellings n in
      let b = not_child group in
      omega (arith, a, b)

  -- ---- what a group is told, by how often it will be told of the new task
  registered_old : (group t : ℕ) → (t ≡ n → ⊥) → registered_at q (tells group t) (own_future q t) ≡ registered_at p (tells group t) (own_future p t)
  registered_old group t k = ap (registered_at q (tells group t)) (own_old t k) ∙ go (own_future p t) refl
    where
      go : (o : Option ℕ) → own_future p t ≡ o → registered_at q (tells group t) o ≡ registered_at p (tells group t) o
      go None e = refl
      go (Some on) e = let x = live_in running excused l.parts is.parts t on e in
          ap (λ y. count_by (tells group t) (callbacks_at y)) (at_old on (λ y. absurd (omega (arith, x, y))))

  new_total : (group : ℕ) → total q (tells group n) (own_future q n) ≡ cond (id == group) 1 0
  new_total group =
      let a = pending_same group n in
      let b = none_pending group in
      let c : registered_at q (tells group n) (own_future q n) ≡ 0 + cond ((id == group) && (n == n)) 1 0 = ap (registered_at q (tells group n)) own_new
      ∙ ap (λ y. count_by (tells group n) (callbacks_at y)) at_new in
      let d : ◌≡◌ {A = ℕ} (cond ((id == group) && (n == n)) 1 0) (cond (id == group) 1 0) = rw (eq-eqb n n refl) (plain (id == group)) in
      omega (arith, a, b, c, d)
    where
      plain : (b : Bool) → ◌≡◌ {A = ℕ} (cond (b && true) 1 0) (cond b 1 0)
      plain true = refl
      plain false = refl

  home : (group t : ℕ) → IsAtHome q (tells group t) (own_future q t)
  home group t on h = go (cases_eq on m)
    where
      new_home : (b c : Bool) → (id == group) ≡ b → (n == t) ≡ c → 0 < cond (b && c) 1 0 → own_future q t ≡ Some m
      new_home true true e f x = subst (λ i. own_future q i ≡ Some m) (eqb-true n t f) own_new
      new_home true false e f x = absurd (omega (arith, x))
      new_home false c e f x = absurd (omega (arith, x))

      old : (t ≡ n) ⊎ (t ≡ n → ⊥) → own_future p t ≡ Some on → own_future q t ≡ Some on
      old (inl e) x = absurd (none-some on (sym own_none ∙ ap (own_future p) (sym e) ∙ x))
      old (inr k) x = own_old t k ∙ x

      go : (on ≡ m) ⊎ (on ≡ m → ⊥) → own_future q t ≡ Some on
      go (inl e) =
          let y : 0 < 0 + cond ((id == group) && (n == t)) 1 0 =
          subst (λ k. 0 < k) (ap (λ i. count_by (tells group t) (callbacks_of q i)) e ∙ ap (λ y. count_by (tells group t) (callbacks_at y)) at_new) h in
          new_home (id == group) (n == t) refl refl (omega (arith, y))
          ∙ ap Some (sym e)
      go (inr k) = old (cases_eq t n)
          ((is.tellings group).at_home t on (subst (λ x. 0 < x) (ap (λ y. count_by (tells group t) (callbacks_at y)) (at_old on k)) h))

  told_old : (group t : ℕ) → 1 ≤ occurrences t (told group) → t ≡ n → ⊥
  told_old group t h e =
      let a = not_made group in
      let b = (is.kept group).child_or_told t in
      let c : occurrences t (group_of l group).made ≡ 0 = subst (λ x. occurrences x (group_of l group).made ≡ 0) (sym e) a in
      absurd (omega (arith, b, c, h))

  tasks_more : next_task q ≡ n + 1
  tasks_more = length-append l.parts.tasks _

  told_as : (group : ℕ) (it : Group)
      → ((t : ℕ) → occurrences t it.children ≡ occurrences t (group_of l group).children + cond ((id == group) && nat_eq t n) 1 0)
      → ((t : ℕ) → 1 ≤ occurrences t it.made → t < n + 1) → it.entered ≡ (group_of l group).entered → it.ended ≡ (group_of l group).ended
      → it.parent ≡ (group_of l group).parent → IsTold q group (told group) it
  told_as group it children made_in entered ended parent = record {
    tellings = λ t. tellings t (cases_eq t n);
    at_home = home group;
    not_yet = λ t x. not_yet t x (cases_eq t n);
    told_done = λ t h. lives_old t (told_old group t h) ∙ (is.tellings group).told_done t h;
    made_below = λ t h. subst (λ (k : ℕ). t < k) (sym tasks_more) (made_in t h);
    parent_lives = λ x y.
        let a = (is.tellings group).parent_lives (sym entered ∙ x) (sym ended ∙ y) in
        ap (lives q) parent ∙ lives_old (group_of l group).parent
        (λ e. false≢true (sym (new_lived_not running excused l.parts is.parts) ∙ subst (λ i. lives p i ≡ true) e a)) ∙ a;
  }
    where
      tellings : (t : ℕ) → (t ≡ n) ⊎ (t ≡ n → ⊥) → total q (tells group t) (own_future q t) ≡ occurrences t it.children
      tellings t (inl e) = subst (λ x. total q (tells group x) (own_future q x) ≡ occurrences x it.children) (sym e) (
          let a = new_total group in
          let b = children n in
          let c = not_child group in
          let d : ◌≡◌ {A = ℕ} (cond ((id == group) && nat_eq n n) 1 0) (cond (id == group) 1 0) = rw (eq-eqb n n refl) (plain (id == group)) in
          omega (arith, a, b, c, d))
        where
          plain : (b : Bool) → ◌≡◌ {A = ℕ} (cond (b && true) 1 0) (cond b 1 0)
          plain true = refl
          plain false = refl
      tellings t (inr k) =
          let a = pending_same group t in
          let b = registered_old group t k in
          let c = (is.tellings group).tellings t in
          let d : occurrences t it.children ≡ occurrences t (group_of l group).children + 0 = children t
          ∙ rw (ne_eqb t n k) (ap (λ x. occurrences t (group_of l group).children + x) (off (id == group))) in
          omega (arith, a, b, c, d)
        where
          off : (b : Bool) → ◌≡◌ {A = ℕ} (cond (b && false) 1 0) 0
          off true = refl
          off false = refl

      not_yet : (t : ℕ) → lives q t ≡ true → (t ≡ n) ⊎ (t ≡ n → ⊥) → pending_where (tells group t) q.pending ≡ 0
      not_yet t x (inl e) = subst (λ i. pending_where (tells group i) q.pending ≡ 0) (sym e) (pending_same group n ∙ none_pending group)
      not_yet t x (inr k) = pending_same group t ∙ (is.tellings group).not_yet t (sym (lives_old t k) ∙ x)

  -- ---- the group's new fields
  abbrev created : Group
  created = record (group_of l id) { children = (group_of l id).children ++ n ∷ []; made = (group_of l id).made ++ n ∷ [] }

  one_more : (t : ℕ) (xs : List ℕ) → occurrences t (xs ++ n ∷ []) ≡ occurrences t xs + cond (nat_eq t n) 1 0
  one_more t xs = sum_by_push (λ y. cond (nat_eq t y) 1 0) xs n

  not_ended : (group_of l id).ended ≡ false
  not_ended = go (cases_Bool (group_of l id).ended)
    where
      refused : (b : Bool) → (cond b (Some NotEntered) (Some IsFinished)) ≡ None → ⊥
      refused true e = none-some NotEntered (sym e)
      refused false e = none-some IsFinished (sym e)

      go : ((group_of l id).ended ≡ true) ⊎ ((group_of l id).ended ≡ false) → (group_of l id).ended ≡ false
      go (inl x) =
          let a = (is.kept id).ended_exiting x in
          let b = (is.kept id).none_left x in
          absurd (refused (not (group_of l id).entered) (rw (a, b) at allowed))
      go (inr x) = x

  within : id < length l.groups
  within = go (cases_lt id (length l.groups))
    where
      go : (id < length l.groups) ⊎ (length l.groups ≤ id) → id < length l.groups
      go (inl x) = x
      go (inr past) = absurd (none-some NotEntered (sym (sym (ap refusal (get_or_past l.groups id (new_group 0) past)) ∙ allowed)))

  below_more : (group t : ℕ) → 1 ≤ occurrences t (group_of l group).made → t < n + 1
  below_more group t h = let x = (is.tellings group).made_below t h in omega (arith, x)

  errors_same : (group : ℕ) → HasErrors q (told group) (group_of l group)
  errors_same group = is.errors group
      ∙ ap (λ x. x ++ body_at_end (group_of l group).ended (group_of l group).body)
      (sym (failures_kept p q (told group) (λ t h. same t (told_old group t h))))
    where
      same : (t : ℕ) → (t ≡ n → ⊥) → failure_of q t ≡ failure_of p t
      same t k = go (own_future p t) refl
        where
          go : (o : Option ℕ) → own_future p t ≡ o → failure_of q t ≡ failure_of p t
          go None e =
              let a : future_of q t ≡ length q.futures = future_of-owned q t
              ∙ ap (λ o. option_map_or (λ (i : ℕ). i) o (length q.futures)) (own_old t k ∙ e) in
              let b : future_of p t ≡ m = future_of-owned p t ∙ ap (λ o. option_map_or (λ (i : ℕ). i) o m) e in
              ap (λ i. failure_in (future_outcome q i)) a ∙ ap (λ o. failure_in (outcome_at o)) (slice_get_past q.futures (length q.futures) (omega arith))
              ∙ sym (ap (λ i. failure_in (future_outcome p i)) b ∙ ap (λ o. failure_in (outcome_at o)) (no_future running excused l.parts is.parts))
          go (Some on) e =
              let x = live_in running excused l.parts is.parts t on e in
              ap (λ i. failure_in (future_outcome q i)) (own_is q t on (own_old t k ∙ e))
              ∙ ap (λ o. failure_in (outcome_at o)) (at_old on (λ y. absurd (omega (arith, x, y))))
              ∙ sym (ap (λ i. failure_in (future_outcome p i)) (own_is p t on e))

  exits_same : (group : ℕ) → HasPlainExit q (group_of l group)
  exits_same group future e =
      let x = is.exits group future e in
      let y = (plain_within p future x).1 in
      ap is_plain_at (at_old future (λ z. absurd (omega (arith, y, z)))) ∙ x

  pub created_holds : Holds running excused told told (group_of (set_group id created (in_parts (with_child id) l))) (with_child id l.parts)
  created_holds = subst (Holds running excused told told (group_of (set_group id created (in_parts (with_child id) l)))) (sym is_q)
      (holds_each running excused told told (group_of (set_group id created (in_parts (with_child id) l))) q sound (λ j. at j (cases_eq id j)))
    where
      off : (b : Bool) → ◌≡◌ {A = ℕ} (cond (false && b) 1 0) 0
      off b = refl

      mine : Fits q id (told id) (told id) created
      mine = record {
        tellings = told_as id created (λ t. one_more t (group_of l id).children ∙ rw (eq-eqb id id refl) refl)
            (λ t h. in_made t h (cases_eq t n)) refl refl refl;
        heards = λ t h. let x = is.heards id t h in let y = x.1 in let o = one_more t (group_of l id).made in (x.0, omega (arith, y, o));
        errors = errors_same id;
        kept = record {
          made_once = λ t. once t (cases_eq t n);
          child_or_told = λ t. let a = one_more t (group_of l id).children in let b = one_more t (group_of l id).made in
              let c = (is.kept id).child_or_told t in omega (arith, a, b, c);
          none_left = λ e. absurd (false≢true (sym not_ended ∙ e));
          ended_exiting = (is.kept id).ended_exiting;
        };
        exits = exits_same id;
      }
        where
          in_made : (t : ℕ) → 1 ≤ occurrences t ((group_of l id).made ++ n ∷ []) → (t ≡ n) ⊎ (t ≡ n → ⊥) → t < n + 1
          in_made t h (inl e) = omega (arith, e)
          in_made t h (inr k) =
              let o : occurrences t ((group_of l id).made ++ n ∷ []) ≡ occurrences t (group_of l id).made + 0 = one_more t (group_of l id).made
              ∙ rw (ne_eqb t n k) refl in
              below_more id t (omega (arith, o, h))

          once : (t : ℕ) → (t ≡ n) ⊎ (t ≡ n → ⊥) → occurrences t ((group_of l id).made ++ n ∷ []) ≤ 1
          once t (inl e) =
              let o : occurrences t ((group_of l id).made ++ n ∷ []) ≡ occurrences t (group_of l id).made + 1 = one_more t (group_of l id).made
              ∙ rw (eq-eqb t n e) refl in
              let z : occurrences t (group_of l id).made ≡ 0 = subst (λ x. occurrences x (group_of l id).made ≡ 0) (sym e) (not_made id) in
              omega (arith, o, z)
          once t (inr k) =
              let o : occurrences t ((group_of l id).made ++ n ∷ []) ≡ occurrences t (group_of l id).made + 0 = one_more t (group_of l id).made
              ∙ rw (ne_eqb t n k) refl in
              let z = (is.kept id).made_once t in
              omega (arith, o, z)

      at : (j : ℕ) → (id ≡ j) ⊎ (id ≡ j → ⊥) → Fits q j (told j) (told j) (group_of (set_group id created (in_parts (with_child id) l)) j)
      at j (inl same) = subst (λ i. Fits q i (told i) (told i) (group_of (set_group id created (in_parts (with_child id) l)) i)) same
          (subst (Fits q id (told id) (told id)) (sym (group_same id created (in_parts (with_child id) l) within)) mine)
      at j (inr k) = subst (Fits q j (told j) (told j)) (sym (group_other id j created (in_parts (with_child id) l) k)) (record {
        tellings = told_as j (group_of l j) (λ t. rw (ne_eqb id j k) (omega arith)) (below_more j) refl refl refl;
        heards = is.heards j;
        errors = errors_same j;
        kept = is.kept j;
        exits = exits_same j;
      })

pub create_holds : (running excused : Option ℕ) (told : ℕ → List ℕ) (id : ℕ) (l : Loop) → Holds running excused told told (group_of l) l.parts
    → Holds running excused told told (group_of (create id l)) (create id l).parts
create_holds running excused told id l is = at (refusal (group_of l id)) refl
  where
    at : (o : Option Refusal) → refusal (group_of l id) ≡ o → Holds running excused told told (group_of (create_unless o id l)) (create_unless o id l).parts
    at (Some why) e = is
    at None e = created_holds running excused told id l is e
