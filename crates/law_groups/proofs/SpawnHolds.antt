-- A task is made in no group: what holds of the parts and of all groups goes on holding.
use Rattle.std.proofs.Common.{◌≡◌, ℕ, List, None, Option, Some, ap, arith, inl, inr, length, length-append, option_map, refl, subst, sym, true, ◌++◌, ◌+◌, ◌<◌}
use Rattle.std.proofs.Common.{◌∙◌, ◌≤◌, ◌⊎◌}
use Rattle.model_loop.specs.Loop.{Group}
use Rattle.model_loop.specs.Tasks.{future_of, lives, next_task, spawn}
use Rattle.law_groups.proofs.Told.{failures_kept, own_is}
use Rattle.law_steps.proofs.CancelSound.{plain_within}
use Rattle.model_loop.specs.Owning.{own_future}
use Rattle.model_loop.specs.Totals.{IsAtHome, callbacks_at, callbacks_of, pending_where, registered_at, total}
use Rattle.model_loop.specs.Children.{body_at_end, tells}
use Rattle.law_steps.proofs.Spawning.{called, live_in, new_lived_not, new_none, new_task, no_future, no_task, old_future, old_lives, old_task, spawn_sound}
use Rattle.law_steps.proofs.Spawning.{old_same}
use Rattle.std.specs.List.{count_by}
use Rattle.model_loop.specs.Numbered.{occurrences}
use Rattle.law_groups.specs.Holds.{Holds}
use Rattle.model_loop.specs.Futures.{future_outcome, outcome_at}
use Rattle.std.proofs.lemmas.Option.{none-some, slice_get_past}
use Rattle.std.specs.Option.{option_map_or}
use Rattle.model_loop.specs.Parts.{Parts, Task}
use Rattle.std.proofs.lemmas.Bool.{cases_eq, cases_lt, false≢true}
use Rattle.law_steps.proofs.Looks.{future_of-owned}
use Rattle.model_loop.specs.Groups.{failure_in, failure_of}
use Rattle.model_loop.proofs.FutureCases.{is_plain_at}

module _ (running excused : Option ℕ) (told : ℕ → List ℕ) (groups : ℕ → Group) (p : Parts) (is : Holds running excused told told groups p) where
  abbrev n : ℕ
  n = next_task p

  own_new : own_future (spawn p) n ≡ Some (length p.futures)
  own_new = ap (option_map (λ (x : Task). x.future)) (new_task running excused p is.parts)

  own_old : (t : ℕ) → (t ≡ n → ⊥) → own_future (spawn p) t ≡ own_future p t
  own_old t k = ap (option_map (λ (x : Task). x.future)) (old_task running excused p is.parts t k)

  own_none : own_future p n ≡ None
  own_none = ap (option_map (λ (x : Task). x.future)) (no_task running excused p is.parts)

  pending_same : (group t : ℕ) → pending_where (tells group t) (spawn p).pending ≡ pending_where (tells group t) p.pending
  pending_same group t = let c = called running excused p is.parts (tells group t) in omega (arith, c)

  not_made : (group : ℕ) → occurrences n (groups group).made ≡ 0
  not_made group = go (cases_lt 0 (occurrences n (groups group).made))
    where
      go : (0 < occurrences n (groups group).made) ⊎ (occurrences n (groups group).made ≤ 0) → occurrences n (groups group).made ≡ 0
      go (inl h) = let x = (is.tellings group).made_below n (omega (arith, h)) in absurd (omega (arith, x))
      go (inr h) = omega (arith, h)

  not_child : (group : ℕ) → occurrences n (groups group).children ≡ 0
  not_child group = let a = not_made group in let b = (is.kept group).child_or_told n in omega (arith, a, b)

  none_pending : (group : ℕ) → pending_where (tells group n) p.pending ≡ 0
  none_pending group =
      let a : pending_where (tells group n) p.pending + 0 ≡ occurrences n (groups group).children =
      ap (λ o. pending_where (tells group n) p.pending + registered_at p (tells group n) o) (sym own_none)
      ∙ (is.tellings group).tellings n in
      let b = not_child group in
      omega (arith, a, b)

  told_old : (group t : ℕ) → 1 ≤ occurrences t (told group) → t ≡ n → ⊥
  told_old group t h e =
      let a = not_made group in
      let b = (is.kept group).child_or_told t in
      let c : occurrences t (groups group).made ≡ 0 = subst (λ x. occurrences x (groups group).made ≡ 0) (sym e) a in
      absurd (omega (arith, b, c, h))

  lives_old : (t : ℕ) → (t ≡ n → ⊥) → lives (spawn p) t ≡ lives p t
  lives_old t k = old_lives running excused p is.parts t k

  registered_old : (group t : ℕ) → (t ≡ n → ⊥)
      → registered_at (spawn p) (tells group t) (own_future (spawn p) t) ≡ registered_at p (tells group t) (own_future p t)
  registered_old group t k = ap (registered_at (spawn p) (tells group t)) (own_old t k) ∙ go (own_future p t) refl
    where
      go : (o : Option ℕ) → own_future p t ≡ o → registered_at (spawn p) (tells group t) o ≡ registered_at p (tells group t) o
      go None e = refl
      go (Some on) e =
          let x = live_in running excused p is.parts t on e in
          ap (λ y. count_by (tells group t) (callbacks_at y))
          (old_future running excused p is.parts on (λ y. absurd (omega (arith, x, y))))

  tellings : (group t : ℕ) → (t ≡ n) ⊎ (t ≡ n → ⊥)
      → total (spawn p) (tells group t) (own_future (spawn p) t) ≡ occurrences t (groups group).children
  tellings group t (inl e) =
      subst (λ x. total (spawn p) (tells group x) (own_future (spawn p) x) ≡ occurrences x (groups group).children) (sym e) (
      let a = pending_same group n in
      let b = none_pending group in
      let c : registered_at (spawn p) (tells group n) (own_future (spawn p) n) ≡ 0 =
      ap (registered_at (spawn p) (tells group n)) own_new ∙ new_none running excused p is.parts (tells group n) in
      let d = not_child group in
      omega (arith, a, b, c, d))
  tellings group t (inr k) =
      let a = pending_same group t in
      let b = registered_old group t k in
      let c = (is.tellings group).tellings t in
      omega (arith, a, b, c)

  at_home : (group t : ℕ) → IsAtHome (spawn p) (tells group t) (own_future (spawn p) t)
  at_home group t on h = go (cases_eq on (length p.futures))
    where
      old : (t ≡ n) ⊎ (t ≡ n → ⊥) → own_future p t ≡ Some on → own_future (spawn p) t ≡ Some on
      old (inl e) x = absurd (none-some on (sym own_none ∙ ap (own_future p) (sym e) ∙ x))
      old (inr k) x = own_old t k ∙ x

      go : (on ≡ length p.futures) ⊎ (on ≡ length p.futures → ⊥) → own_future (spawn p) t ≡ Some on
      go (inl e) =
          let z : count_by (tells group t) (callbacks_of (spawn p) on) ≡ 0 =
          ap (λ j. count_by (tells group t) (callbacks_of (spawn p) j)) e ∙ new_none running excused p is.parts (tells group t) in
          absurd (omega (arith, z, h))
      go (inr k) =
          old (cases_eq t n)
          ((is.tellings group).at_home t on (subst (λ x. 0 < x) (old_same running excused p is.parts (tells group t) on k) h))

  not_yet : (group t : ℕ) → lives (spawn p) t ≡ true → (t ≡ n) ⊎ (t ≡ n → ⊥) → pending_where (tells group t) (spawn p).pending ≡ 0
  not_yet group t x (inl e) =
      subst (λ i. pending_where (tells group i) (spawn p).pending ≡ 0) (sym e) (pending_same group n ∙ none_pending group)
  not_yet group t x (inr k) = pending_same group t ∙ (is.tellings group).not_yet t (sym (lives_old t k) ∙ x)

  failure_same : (t : ℕ) → (t ≡ n → ⊥) → failure_of (spawn p) t ≡ failure_of p t
  failure_same t k = go (own_future p t) refl
    where
      go : (o : Option ℕ) → own_future p t ≡ o → failure_of (spawn p) t ≡ failure_of p t
      go None e =
          let a : future_of (spawn p) t ≡ length (spawn p).futures =
          future_of-owned (spawn p) t ∙ ap (λ o. option_map_or (λ (i : ℕ). i) o (length (spawn p).futures)) (own_old t k ∙ e) in
          let b : future_of p t ≡ length p.futures =
          future_of-owned p t ∙ ap (λ o. option_map_or (λ (i : ℕ). i) o (length p.futures)) e in
          ap (λ i. failure_in (future_outcome (spawn p) i)) a
          ∙ ap (λ o. failure_in (outcome_at o)) (slice_get_past (spawn p).futures (length (spawn p).futures) (omega arith))
          ∙ sym (ap (λ i. failure_in (future_outcome p i)) b
          ∙ ap (λ o. failure_in (outcome_at o)) (no_future running excused p is.parts))
      go (Some on) e =
          let x = live_in running excused p is.parts t on e in
          ap (λ i. failure_in (future_outcome (spawn p) i)) (own_is (spawn p) t on (own_old t k ∙ e))
          ∙ ap (λ o. failure_in (outcome_at o)) (old_future running excused p is.parts on (λ y. absurd (omega (arith, x, y))))
          ∙ sym (ap (λ i. failure_in (future_outcome p i)) (own_is p t on e))

  pub spawn_holds : Holds running excused told told groups (spawn p)
  spawn_holds = record {
    parts = spawn_sound running excused p is.parts;
    tellings = λ group. record {
      tellings = λ t. tellings group t (cases_eq t n);
      at_home = at_home group;
      not_yet = λ t x. not_yet group t x (cases_eq t n);
      told_done = λ t h. lives_old t (told_old group t h) ∙ (is.tellings group).told_done t h;
      made_below = λ t h.
          let x = (is.tellings group).made_below t h in
          let y : next_task (spawn p) ≡ n + 1 = length-append p.tasks _ in
          omega (arith, x, y);
      parent_lives = λ x y.
          let a = (is.tellings group).parent_lives x y in
          lives_old (groups group).parent (λ e. false≢true (sym (new_lived_not running excused p is.parts) ∙ subst (λ i. lives p i ≡ true) e a)) ∙ a;
    };
    heards = is.heards;
    errors = λ group. is.errors group ∙ ap (λ x. x ++ body_at_end (groups group).ended (groups group).body)
        (sym (failures_kept p (spawn p) (told group) (λ t h. failure_same t (told_old group t h))));
    kept = is.kept;
    exits = λ group future e.
        let x = is.exits group future e in
        let y = (plain_within p future x).1 in
        ap is_plain_at (old_future running excused p is.parts future (λ z. absurd (omega (arith, y, z)))) ∙ x;
  }
