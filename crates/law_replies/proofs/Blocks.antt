-- Blocks that are open on tapes are the timeouts and groups that are open, as one is entered or left.
use Rattle.std.proofs.Common.{◌≡◌, ℕ, ◌<◌, ◌≤◌, ◌+◌, ◌⊎◌, inl, inr, Bool, true, false, not, ◌&&◌, ◌||◌, List, [], ◌∷◌, Option, Some}
use Rattle.std.proofs.Common.{None, length, length-append, length-set, refl, sym, ap, subst, ◌∙◌, arith}
use Rattle.std.specs.List.{list_any}
use Rattle.std.proofs.lemmas.Bool.{cases_eq, eq-eqb, ne_eqb}
use Rattle.model_value.specs.Equality.{equal}
use Rattle.model_value.specs.Value.{Value, Group, Timeout}
use Rattle.model_loop.specs.Groups.{enter_group, group_of, make_group, new_group}
use Rattle.model_loop.specs.Loop.{Group as GroupFields, Timeout as TimeoutFields, Loop}
use Rattle.model_loop.specs.Timeouts.{make_timeout, timeout_of}
use Rattle.model_machine.specs.Sound.{AreBlocksOf, IsBlockOf, is_open}
use Rattle.law_groups.proofs.Holding.{group_same, group_other}
use Rattle.law_groups.proofs.Firing.{made_timeout, other_timeout}
use Rattle.law_turns.specs.After.{IsLoopAfter}
use Rattle.law_replies.proofs.Tapes.{push_within, push_last}

-- `B` has the open blocks of each task
pub record AreOpenAt (l : Loop) (B : ℕ → List Value) : Type 0 where
  pub timeouts : (id : ℕ) → id < length l.timeouts → is_open (timeout_of l id).state ≡ list_any (equal (Timeout id)) (B (timeout_of l id).task)
  pub groups : (id : ℕ) → id < length l.groups
      → ((group_of l id).entered && not (group_of l id).ended) ≡ list_any (equal (Group id)) (B (group_of l id).parent)
  pub own : (task : ℕ) → AreBlocksOf l task (B task)

-- ---- blocks stay the task's
pub own_kept : (l m : Loop) → length l.timeouts ≤ length m.timeouts → length l.groups ≤ length m.groups
    → ((id : ℕ) → id < length l.timeouts → (timeout_of m id).task ≡ (timeout_of l id).task)
    → ((id : ℕ) → id < length l.groups → (group_of m id).parent ≡ (group_of l id).parent)
    → (task : ℕ) (blocks : List Value) → AreBlocksOf l task blocks → AreBlocksOf m task blocks
own_kept l m ts gs tasks parents task [] h = tt
own_kept l m ts gs tasks parents task (block ∷ blocks) h =
    (one block h.0, h.1, own_kept l m ts gs tasks parents task blocks h.2)
  where
    one : (value : Value) → IsBlockOf l task value → IsBlockOf m task value
    one (Timeout id) k = (omega (arith, ts, k.0), tasks id k.0 ∙ k.1)
    one (Group id) k = (omega (arith, gs, k.0), parents id k.0 ∙ k.1)
    one _ k = absurd k

-- ---- where none is entered or left
pub open_kept : (test : Value → Bool) (grown : Bool) (excused begun : Option ℕ) (l m : Loop) (B C : ℕ → List Value)
    → IsLoopAfter test grown excused None None begun l m
    → ((task : ℕ) → C task ≡ B task) → AreOpenAt l B → AreOpenAt m C
open_kept test grown excused begun l m B C a same is = record {
  timeouts = λ id h.
      let t = a.timeouts id in
      t.open_ refl ∙ is.timeouts id (let e = a.timeouts_made in omega (arith, e, h))
      ∙ ap (λ k. list_any (equal (Timeout id)) (B k)) (sym t.task) ∙ ap (list_any (equal (Timeout id))) (sym (same (timeout_of m id).task));
  groups = λ id h.
      let g = a.groups id in
      ap (λ b. b && not (group_of m id).ended) g.entered ∙ ap (λ b. (group_of l id).entered && not b) (g.ended refl)
      ∙ is.groups id (let e = a.groups_made in omega (arith, e, h))
      ∙ ap (λ k. list_any (equal (Group id)) (B k)) (sym g.parent) ∙ ap (list_any (equal (Group id))) (sym (same (group_of m id).parent));
  own = λ task. subst (AreBlocksOf m task) (sym (same task))
      (own_kept l m (let e = a.timeouts_made in omega (arith, e)) (let e = a.groups_made in omega (arith, e)) (λ id h. (a.timeouts id).task)
      (λ id h. (a.groups id).parent) task (B task) (is.own task));
}

-- ---- numbers that are new
fresh_timeout : (l : Loop) (task new : ℕ) (blocks : List Value) → length l.timeouts ≤ new → AreBlocksOf l task blocks
    → list_any (equal (Timeout new)) blocks ≡ false
fresh_timeout l task new [] h own = refl
fresh_timeout l task new (block ∷ blocks) h own =
    ap (λ b. b || list_any (equal (Timeout new)) blocks) (one block own.0) ∙ fresh_timeout l task new blocks h own.2
  where
    one : (value : Value) → IsBlockOf l task value → equal (Timeout new) value ≡ false
    one (Timeout id) k = let x = k.0 in ne_eqb new id (λ e. absurd (omega (arith, x, h, e)))
    one (Group id) k = refl
    one _ k = absurd k

fresh_group : (l : Loop) (task new : ℕ) (blocks : List Value) → length l.groups ≤ new → AreBlocksOf l task blocks
    → list_any (equal (Group new)) blocks ≡ false
fresh_group l task new [] h own = refl
fresh_group l task new (block ∷ blocks) h own =
    ap (λ b. b || list_any (equal (Group new)) blocks) (one block own.0) ∙ fresh_group l task new blocks h own.2
  where
    one : (value : Value) → IsBlockOf l task value → equal (Group new) value ≡ false
    one (Timeout id) k = refl
    one (Group id) k = let x = k.0 in ne_eqb new id (λ e. absurd (omega (arith, x, h, e)))
    one _ k = absurd k

-- where a block of the task is added or dropped, another one is open as before
module _ (task : ℕ) (B C : ℕ → List Value) (block : Value) (others : (other : ℕ) → (task ≡ other → ⊥) → C other ≡ B other) where
  pub more_any : C task ≡ block ∷ B task → (value : Value) → equal value block ≡ false → (other : ℕ)
      → list_any (equal value) (C other) ≡ list_any (equal value) (B other)
  more_any more value n other = at (cases_eq task other)
    where
      at : (task ≡ other) ⊎ (task ≡ other → ⊥) → list_any (equal value) (C other) ≡ list_any (equal value) (B other)
      at (inl same) =
          subst (λ k. list_any (equal value) (C k) ≡ list_any (equal value) (B k)) same
          (ap (list_any (equal value)) more ∙ ap (λ b. b || list_any (equal value) (B task)) n)
      at (inr n) = ap (list_any (equal value)) (others other n)

  pub less_any : B task ≡ block ∷ C task → (value : Value) → equal value block ≡ false → (other : ℕ)
      → list_any (equal value) (C other) ≡ list_any (equal value) (B other)
  less_any less value n other = at (cases_eq task other)
    where
      at : (task ≡ other) ⊎ (task ≡ other → ⊥) → list_any (equal value) (C other) ≡ list_any (equal value) (B other)
      at (inl same) =
          subst (λ k. list_any (equal value) (C k) ≡ list_any (equal value) (B k)) same
          (sym (ap (list_any (equal value)) less ∙ ap (λ b. b || list_any (equal value) (C task)) n))
      at (inr n) = ap (list_any (equal value)) (others other n)

  own_others : (l : Loop) → ((other : ℕ) → AreBlocksOf l other (B other)) → AreBlocksOf l task (C task) → (other : ℕ) → AreBlocksOf l other (C other)
  own_others l own mine other = at (cases_eq task other)
    where
      at : (task ≡ other) ⊎ (task ≡ other → ⊥) → AreBlocksOf l other (C other)
      at (inl same) = subst (λ k. AreBlocksOf l k (C k)) same mine
      at (inr n) = subst (AreBlocksOf l other) (sym (others other n)) (own other)

-- ---- a timeout
made_longer : (task : ℕ) (l : Loop) → length (make_timeout task l).timeouts ≡ length l.timeouts + 1
made_longer task l = length-append l.timeouts _

module _ (l : Loop) (task : ℕ) (B C : ℕ → List Value) (others : (other : ℕ) → (task ≡ other → ⊥) → C other ≡ B other) (is : AreOpenAt l B) where
  pub timeout_made_open : C task ≡ Timeout (length l.timeouts) ∷ B task → AreOpenAt (make_timeout task l) C
  timeout_made_open more = record {
    timeouts = λ id h. at id h (cases_eq (length l.timeouts) id);
    groups = λ id h. is.groups id h ∙ sym (more_any task B C (Timeout (length l.timeouts)) others more (Group id) refl (group_of l id).parent);
    own = own_others task B C (Timeout (length l.timeouts)) others (make_timeout task l) (λ other. kept other (B other) (is.own other))
        (subst (AreBlocksOf (make_timeout task l) task) (sym more) (
          mine,
          fresh_timeout l task (length l.timeouts) (B task) (omega arith)
              (is.own task),
          kept task (B task) (is.own task),
        ));
  }
    where
      old : (id : ℕ) → id < length l.timeouts → timeout_of (make_timeout task l) id ≡ timeout_of l id
      old id h = other_timeout task l id (λ e. absurd (omega (arith, h, e)))

      kept : (other : ℕ) (blocks : List Value) → AreBlocksOf l other blocks → AreBlocksOf (make_timeout task l) other blocks
      kept =
          own_kept l (make_timeout task l) (let e = made_longer task l in omega (arith, e)) (omega arith)
          (λ id h. ap (λ (t : TimeoutFields). t.task) (old id h)) (λ id h. refl)

      mine : (length l.timeouts < length (make_timeout task l).timeouts) × ((timeout_of (make_timeout task l) (length l.timeouts)).task ≡ task)
      mine = (let e = made_longer task l in omega (arith, e), ap (λ (t : TimeoutFields). t.task) (made_timeout task l))

      at : (id : ℕ) → id < length (make_timeout task l).timeouts → (length l.timeouts ≡ id) ⊎ (length l.timeouts ≡ id → ⊥)
          → is_open (timeout_of (make_timeout task l) id).state ≡ list_any (equal (Timeout id)) (C (timeout_of (make_timeout task l) id).task)
      at id h (inl same) =
          subst (λ k. is_open (timeout_of (make_timeout task l) k).state ≡ list_any (equal (Timeout k)) (C (timeout_of (make_timeout task l) k).task)) same
          (ap (λ (t : TimeoutFields). is_open t.state) (made_timeout task l)
          ∙ sym (ap (λ (t : TimeoutFields). list_any (equal (Timeout (length l.timeouts))) (C t.task)) (made_timeout task l)
          ∙ ap (list_any (equal (Timeout (length l.timeouts)))) more
          ∙ ap (λ b. b || list_any (equal (Timeout (length l.timeouts))) (B task)) (eq-eqb (length l.timeouts) (length l.timeouts) refl)))
      at id h (inr n) =
          let e = made_longer task l in
          ap (λ (t : TimeoutFields). is_open t.state) (other_timeout task l id n)
          ∙ is.timeouts id (omega (arith, h, e, n))
          ∙ sym (more_any task B C (Timeout (length l.timeouts)) others more (Timeout id)
          (ne_eqb id (length l.timeouts) (λ e. n (sym e))) (timeout_of l id).task)
          ∙ ap (λ (t : TimeoutFields). list_any (equal (Timeout id)) (C t.task)) (sym (other_timeout task l id n))

  pub timeout_left_open : (test : Value → Bool) (grown : Bool) (excused begun : Option ℕ) (m : Loop) (id : ℕ) → IsLoopAfter test grown excused
      (Some id) None begun l m
      → is_open (timeout_of m id).state ≡ false → B task ≡ Timeout id ∷ C task → AreOpenAt m C
  timeout_left_open test grown excused begun m id a closed less = record {
    timeouts = λ j h. at j h (cases_eq id j);
    groups = λ j h.
        let g = a.groups j in
        ap (λ b. b && not (group_of m j).ended) g.entered ∙ ap (λ b. (group_of l j).entered && not b) (g.ended refl)
        ∙ is.groups j (let e = a.groups_made in omega (arith, e, h))
        ∙ sym (less_any task B C (Timeout id) others less (Group j) refl (group_of l j).parent)
        ∙ ap (λ k. list_any (equal (Group j)) (C k)) (sym g.parent);
    own = own_others task B C (Timeout id) others m (λ other. kept other (B other) (is.own other)) (kept task (C task) mine.2);
  }
    where
      mine : AreBlocksOf l task (Timeout id ∷ C task)
      mine = subst (AreBlocksOf l task) less (is.own task)

      kept : (other : ℕ) (blocks : List Value) → AreBlocksOf l other blocks → AreBlocksOf m other blocks
      kept =
          own_kept l m (let e = a.timeouts_made in omega (arith, e)) (let e = a.groups_made in omega (arith, e))
          (λ j h. (a.timeouts j).task) (λ j h. (a.groups j).parent)

      at : (j : ℕ) → j < length m.timeouts → (id ≡ j) ⊎ (id ≡ j → ⊥)
          → is_open (timeout_of m j).state ≡ list_any (equal (Timeout j)) (C (timeout_of m j).task)
      at j h (inl same) =
          subst (λ k. is_open (timeout_of m k).state ≡ list_any (equal (Timeout k)) (C (timeout_of m k).task)) same
          (closed ∙ sym (ap (λ k. list_any (equal (Timeout id)) (C k)) ((a.timeouts id).task ∙ mine.0.1) ∙ mine.1))
      at j h (inr n) =
          (a.timeouts j).open_ (ne_eqb id j n) ∙ is.timeouts j (let e = a.timeouts_made in omega (arith, e, h))
          ∙ sym (less_any task B C (Timeout id) others less (Timeout j) (ne_eqb j id (λ e. n (sym e))) (timeout_of l j).task)
          ∙ ap (λ k. list_any (equal (Timeout j)) (C k)) (sym (a.timeouts j).task)

-- ---- a group
abbrev pub entered_new : ℕ → Loop → Loop
entered_new task l = enter_group (length l.groups) (make_group task l)

pub groups_longer : (task : ℕ) (l : Loop) → length (entered_new task l).groups ≡ length l.groups + 1
groups_longer task l = length-set (make_group task l).groups (length l.groups) _ ∙ length-append l.groups _

pub entered_is : (task : ℕ) (l : Loop) → group_of (entered_new task l) (length l.groups) ≡ record (new_group task) { entered = true }
entered_is task l =
    group_same (length l.groups) _ (make_group task l) (let e : length (make_group task l).groups ≡ length l.groups + 1 = length-append l.groups _ in omega
    (arith, e))
    ∙ ap (λ (g : GroupFields). record g { entered = true }) (push_last l.groups (new_group task) (new_group 0))

pub entered_old : (task : ℕ) (l : Loop) (id : ℕ) → id < length l.groups → group_of (entered_new task l) id ≡ group_of l id
entered_old task l id h =
    group_other (length l.groups) id _ (make_group task l) (λ e. absurd (omega (arith, h, e)))
    ∙ push_within l.groups (new_group task) id (new_group 0) h

module _ (l : Loop) (task : ℕ) (B C : ℕ → List Value) (others : (other : ℕ) → (task ≡ other → ⊥) → C other ≡ B other) (is : AreOpenAt l B) where
  pub group_entered_open : C task ≡ Group (length l.groups) ∷ B task → AreOpenAt (entered_new task l) C
  group_entered_open more = record {
    timeouts = λ id h. is.timeouts id h ∙ sym (more_any task B C (Group (length l.groups)) others more (Timeout id) refl (timeout_of l id).task);
    groups = λ id h. at id h (cases_eq (length l.groups) id);
    own = own_others task B C (Group (length l.groups)) others (entered_new task l) (λ other. kept other (B other) (is.own other))
        (subst (AreBlocksOf (entered_new task l) task) (sym more) (
          mine,
          fresh_group l task (length l.groups) (B task) (omega arith)
              (is.own task),
          kept task (B task) (is.own task),
        ));
  }
    where
      kept : (other : ℕ) (blocks : List Value) → AreBlocksOf l other blocks → AreBlocksOf (entered_new task l) other blocks
      kept =
          own_kept l (entered_new task l) (omega arith) (let e = groups_longer task l in omega (arith, e)) (λ id h. refl)
          (λ id h. ap (λ (g : GroupFields). g.parent) (entered_old task l id h))

      mine : (length l.groups < length (entered_new task l).groups) × ((group_of (entered_new task l) (length l.groups)).parent ≡ task)
      mine = (let e = groups_longer task l in omega (arith, e), ap (λ (g : GroupFields). g.parent) (entered_is task l))

      at : (id : ℕ) → id < length (entered_new task l).groups → (length l.groups ≡ id) ⊎ (length l.groups ≡ id → ⊥)
          → ((group_of (entered_new task l) id).entered && not (group_of (entered_new task l) id).ended)
          ≡ list_any (equal (Group id)) (C (group_of (entered_new task l) id).parent)
      at id h (inl same) =
          subst (λ k. ((group_of (entered_new task l) k).entered && not (group_of (entered_new task l) k).ended)
          ≡ list_any (equal (Group k)) (C (group_of (entered_new task l) k).parent)) same
          (ap (λ (g : GroupFields). g.entered && not g.ended) (entered_is task l)
          ∙ sym (ap (λ (g : GroupFields). list_any (equal (Group (length l.groups))) (C g.parent)) (entered_is task l)
          ∙ ap (list_any (equal (Group (length l.groups)))) more
          ∙ ap (λ b. b || list_any (equal (Group (length l.groups))) (B task)) (eq-eqb (length l.groups) (length l.groups) refl)))
      at id h (inr n) =
          let e = groups_longer task l in
          let within : id < length l.groups = omega (arith, h, e, n) in
          ap (λ (g : GroupFields). g.entered && not g.ended) (entered_old task l id within)
          ∙ is.groups id within
          ∙ sym (more_any task B C (Group (length l.groups)) others more (Group id)
          (ne_eqb id (length l.groups) (λ e. n (sym e))) (group_of l id).parent)
          ∙ ap (λ (g : GroupFields). list_any (equal (Group id)) (C g.parent)) (sym (entered_old task l id within))

  pub group_left_open : (test : Value → Bool) (grown : Bool) (excused begun : Option ℕ) (m : Loop) (id : ℕ) → IsLoopAfter test grown excused None
      (Some id) begun l m
      → (group_of m id).ended ≡ true → B task ≡ Group id ∷ C task → AreOpenAt m C
  group_left_open test grown excused begun m id a ended less = record {
    timeouts = λ j h.
        let t = a.timeouts j in
        t.open_ refl ∙ is.timeouts j (let e = a.timeouts_made in omega (arith, e, h))
        ∙ sym (less_any task B C (Group id) others less (Timeout j) refl (timeout_of l j).task)
        ∙ ap (λ k. list_any (equal (Timeout j)) (C k)) (sym t.task);
    groups = λ j h. at j h (cases_eq id j);
    own = own_others task B C (Group id) others m (λ other. kept other (B other) (is.own other)) (kept task (C task) mine.2);
  }
    where
      mine : AreBlocksOf l task (Group id ∷ C task)
      mine = subst (AreBlocksOf l task) less (is.own task)

      kept : (other : ℕ) (blocks : List Value) → AreBlocksOf l other blocks → AreBlocksOf m other blocks
      kept =
          own_kept l m (let e = a.timeouts_made in omega (arith, e)) (let e = a.groups_made in omega (arith, e))
          (λ j h. (a.timeouts j).task) (λ j h. (a.groups j).parent)

      off : (b : Bool) → (b && not true) ≡ false
      off true = refl
      off false = refl

      at : (j : ℕ) → j < length m.groups → (id ≡ j) ⊎ (id ≡ j → ⊥)
          → ((group_of m j).entered && not (group_of m j).ended) ≡ list_any (equal (Group j)) (C (group_of m j).parent)
      at j h (inl same) =
          subst (λ k. ((group_of m k).entered && not (group_of m k).ended) ≡ list_any (equal (Group k)) (C (group_of m k).parent)) same
          (ap (λ b. (group_of m id).entered && not b) ended ∙ off (group_of m id).entered
          ∙ sym (ap (λ k. list_any (equal (Group id)) (C k)) ((a.groups id).parent ∙ mine.0.1) ∙ mine.1))
      at j h (inr n) =
          let g = a.groups j in
          ap (λ b. b && not (group_of m j).ended) g.entered ∙ ap (λ b. (group_of l j).entered && not b) (g.ended (ne_eqb id j n))
          ∙ is.groups j (let e = a.groups_made in omega (arith, e, h))
          ∙ sym (less_any task B C (Group id) others less (Group j) (ne_eqb j id (λ e. n (sym e))) (group_of l j).parent)
          ∙ ap (λ k. list_any (equal (Group j)) (C k)) (sym g.parent)
