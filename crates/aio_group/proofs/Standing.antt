-- What groups in code stand for goes on with the parts, and with a change of one group.
use Rattle.std.proofs.Common.{◌≡◌, ℕ, ◌≤◌, ◌⊎◌, List, [], ◌∷◌, Option, Some, None, map, slice_get, slice_set, refl, ap, sym, subst, ◌∙◌, inl, inr, arith}
use Rattle.std.proofs.lemmas.Bool.{cases_eq}
use Rattle.std.specs.List.{AllByRecursion as Each}
use Rattle.model_value.specs.declared.outcome.Outcome.TheVariants.{Value as Returned, Failed, Cancelled}
use Rattle.model_value.specs.Value.{Outcome, Exc}
use Rattle.model_loop.specs.Futures.{future_outcome}
use Rattle.model_loop.specs.Groups.{new_group, group_of, set_group, failure_in, failure_of}
use Rattle.model_loop.specs.Loop.{Group, Loop}
use Rattle.model_loop.specs.Parts.{Parts}
use Rattle.model_loop.specs.Tasks.{future_of}
use Rattle.law_cancel.proofs.Lookups.{get-set_same, get-set_other}
use Rattle.aio_task.specs.View.{View}
use Rattle.aio_task.specs.Keeps.{NameMap, Keeps, Kept, Extends}
use Rattle.aio_group.specs.GoesOn.{PartsGoOn}
use Rattle.aio_group.specs.Held.{Held}
use Rattle.aio_group.specs.Stands.{IsLive, KeepsGroup, KeepsAt, StandForGroups, GroupsStand, Came, GroupSteps}
use Rattle.aio_group.proofs.Going.{same_on, then_on}
use Rattle.aio_group.proofs.Listing.{set-set, set-same, index_at, all_to}

-- ---- a name map goes on
pub same_extends : (t : NameMap) (p q : Parts) → p.next_tag ≤ q.next_tag → Extends p t q t
same_extends t p q m = record { known = λ tag h. refl; tags = m; gone = refl; bar = refl }

pub then_extends : (t u w : NameMap) (p q r : Parts) → Extends p t q u → Extends q u r w → Extends p t r w
then_extends t u w p q r a b =
    let at = a.tags in
    let bt = b.tags in
    record {
      known = λ tag h. b.known tag (omega (arith, h, at)) ∙ a.known tag h;
      tags = omega (arith, at, bt);
      gone = b.gone ∙ a.gone;
      bar = b.bar ∙ a.bar;
    }

-- ---- a group while parts go on
pub failed_is : (o : Option Outcome) (fault : Exc) → failure_in o ≡ Some fault → o ≡ Some (Failed fault)
failed_is None fault e = absurd (cc)
failed_is (Some Cancelled) fault e = absurd (cc)
failed_is (Some (Returned value)) fault e = absurd (cc)
failed_is (Some (Failed other)) fault e = let same : other ≡ fault = cc in ap (λ f. Some (Failed f)) same

module _ (t u : NameMap) (p q : Parts) (on : PartsGoOn p q) (gone : u.gone ≡ t.gone) where
  pub live_on : (task : ℕ) → IsLive t p task → IsLive u q task
  live_on task live =
      let same = on.own task live.made in
      let m = live.made in
      let tasks = on.tasks in
      let f = live.future in
      let futures = on.futures in
      record {
        made = omega (arith, m, tasks);
        future = omega (arith, same, f, futures);
        there = ap u.gone same ∙ ap (λ g. g (future_of p task)) gone ∙ live.there;
      }

  failure_on : (task : ℕ) (fault : Exc) → IsLive t p task → failure_of p task ≡ Some fault → failure_of q task ≡ Some fault
  failure_on task fault live e =
      let was = failed_is (future_outcome p (future_of p task)) fault e in
      ap (λ id. failure_in (future_outcome q id)) (on.own task live.made)
      ∙ ap failure_in (on.failures (future_of p task) fault was)

  pub errors_on : (failed : List ℕ) (errors : List Exc) → Each (IsLive t p) failed → map (failure_of p) failed ≡ map Some errors
      → map (failure_of q) failed ≡ map Some errors
  errors_on [] errors live e = e
  errors_on (task ∷ failed) [] live e = absurd (cc)
  errors_on (task ∷ failed) (error ∷ errors) live e =
      let first : failure_of p task ≡ Some error = cc in
      let others : map (failure_of p) failed ≡ map Some errors = cc in
      let now = failure_on task error live.0 first in
      let rest = errors_on failed errors live.1 others in
      ap (λ o. o ∷ map (failure_of q) failed) now ∙ ap (λ os. Some error ∷ os) rest

  pub group_on : (held : Held) (group : Group) → KeepsGroup t p held group → KeepsGroup u q held group
  group_on held group is = record {
    same = is.same;
    children = all_to (IsLive t p) (IsLive u q) held.children live_on is.children;
    failed = all_to (IsLive t p) (IsLive u q) held.failed live_on is.failed;
    faults = λ going.
        let faults = is.faults going in
        record { errors = errors_on held.failed group.errors is.failed faults.errors; body = faults.body; kept = faults.kept };
    early = is.early;
    late = is.late;
  }

  at_on : (held : Option Held) (group : Option Group) → KeepsAt t p held group → KeepsAt u q held group
  at_on None None is = is
  at_on None (Some group) is = is
  at_on (Some held) None is = is
  at_on (Some held) (Some group) is = group_on held group is

  pub groups_on : (groups : List Held) (plain : List Group)
      → ((id : ℕ) → KeepsAt t p (slice_get groups id) (slice_get plain id))
      → (id : ℕ) → KeepsAt u q (slice_get groups id) (slice_get plain id)
  groups_on groups plain each id = at_on (slice_get groups id) (slice_get plain id) (each id)

-- the parts changed, and no group
pub parts_came : (t : NameMap) (groups : List Held) (v w : View) (l m : Loop) → GroupsStand t groups v l → Kept t l.parts w m.parts
    → PartsGoOn l.parts m.parts → m.groups ≡ l.groups → Came t l groups w m
parts_came t groups v w l m s k on e = record {
  name_map = k.name_map;
  stands = record {
    keeps = k.keeps;
    each = subst (λ gs. (id : ℕ) → KeepsAt k.name_map m.parts (slice_get groups id) (slice_get gs id)) (sym e)
        (groups_on t k.name_map l.parts m.parts on k.extends.gone groups l.groups s.each);
  };
  extends = k.extends;
  goes_on = on;
}

-- ---- one group
-- a group that is held is the machine's
pub record There (t : NameMap) (held : Held) (id : ℕ) (l : Loop) : Type 0 where
  pub at : slice_get l.groups id ≡ Some (group_of l id)
  pub is : KeepsGroup t l.parts held (group_of l id)

pub there : (t : NameMap) (groups : List Held) (v : View) (l : Loop) (id : ℕ) (held : Held) → slice_get groups id ≡ Some held
    → GroupsStand t groups v l → There t held id l
there t groups v l id held e s = go (slice_get l.groups id) refl (subst (λ o. KeepsAt t l.parts o (slice_get l.groups id)) e (s.each id))
  where
    go : (o : Option Group) → slice_get l.groups id ≡ o → KeepsAt t l.parts (Some held) o → There t held id l
    go None d is = absurd is
    go (Some group) d is =
        let same : group_of l id ≡ group = index_at l.groups id group (new_group 0) d in
        record { at = d ∙ ap Some (sym same); is = subst (λ g. KeepsGroup t l.parts held g) (sym same) is }

-- it changes in code as in the machine
pub set_stands : (t : NameMap) (groups : List Held) (v : View) (l : Loop) (id : ℕ) (held new : Held) (group : Group)
    → slice_get groups id ≡ Some held → GroupsStand t groups v l → KeepsGroup t l.parts new group
    → GroupsStand t (slice_set groups id new) v (set_group id group l)
set_stands t groups v l id held new group e s is = record { keeps = s.keeps; each = λ j. at j (cases_eq id j) }
  where
    at : (j : ℕ) → (id ≡ j) ⊎ (id ≡ j → ⊥)
        → KeepsAt t l.parts (slice_get (slice_set groups id new) j) (slice_get (slice_set l.groups id group) j)
    at j (inl same) =
        subst (λ i. KeepsAt t l.parts (slice_get (slice_set groups id new) i) (slice_get (slice_set l.groups id group) i)) same
        (rw (
          get-set_same groups id held new e,
          get-set_same l.groups id (group_of l id) group (there t groups v l id held e s).at,
        ) is)
    at j (inr n) = rw (get-set_other groups id j new n, get-set_other l.groups id j group n) (s.each j)

pub group_same : (id : ℕ) (group : Group) (l : Loop) → slice_get l.groups id ≡ Some (group_of l id)
    → group_of (set_group id group l) id ≡ group
group_same id group l e =
    index_at (slice_set l.groups id group) id group (new_group 0) (get-set_same l.groups id (group_of l id) group e)

-- nothing changed
pub stays : (t : NameMap) (groups : List Held) (v : View) (l : Loop) → GroupsStand t groups v l → Came t l groups v l
stays t groups v l s = record {
  name_map = t;
  stands = s;
  extends = same_extends t l.parts l.parts (omega arith);
  goes_on = same_on l.parts;
}

pub then_came : (t : NameMap) (l m n : Loop) (groups others : List Held) (v w : View) (first : Came t l groups v m)
    → Came first.name_map m others w n → Came t l others w n
then_came t l m n groups others v w first second = record {
  name_map = second.name_map;
  stands = second.stands;
  extends = then_extends t first.name_map second.name_map l.parts m.parts n.parts first.extends second.extends;
  goes_on = then_on l.parts m.parts n.parts first.goes_on second.goes_on;
}

-- ---- steps of one group
pub no_step : (held : Held) (v : View) → GroupSteps held v held v (λ id l. l)
no_step held v t groups id l e s = subst (λ gs. Came t l gs v l) (sym (set-same groups id held e)) (stays t groups v l s)

pub then_steps : (a b c : Held) (v w x : View) (f g : ℕ → Loop → Loop) → GroupSteps a v b w f → GroupSteps b w c x g
    → GroupSteps a v c x (λ id l. g id (f id l))
then_steps a b c v w x f g first second t groups id l e s =
    let one = first t groups id l e s in
    let two = second one.name_map (slice_set groups id b) id (f id l) (get-set_same groups id a b e) one.stands in
    subst (λ gs. Came t l gs x (g id (f id l))) (set-set groups id b c)
    (then_came t l (f id l) (g id (f id l)) (slice_set groups id b) (slice_set (slice_set groups id b) id c) w x one two)

-- what came is told by its parts and its groups
pub came_as : (t : NameMap) (groups : List Held) (w : View) (l m n : Loop) → m.parts ≡ n.parts → m.groups ≡ n.groups
    → Came t l groups w m → Came t l groups w n
came_as t groups w l m n p g c = record {
  name_map = c.name_map;
  stands = subst (λ q. StandForGroups c.name_map groups w q n.groups) p
      (subst (λ gs. StandForGroups c.name_map groups w m.parts gs) g c.stands);
  extends = subst (λ q. Extends l.parts t q c.name_map) p c.extends;
  goes_on = subst (λ q. PartsGoOn l.parts q) p c.goes_on;
}

-- the same step in other words
pub as_step : (a b : Held) (v w : View) (f g : ℕ → Loop → Loop) → GroupSteps a v b w f
    → ((t : NameMap) (id : ℕ) (l : Loop) → There t a id l → Keeps t v l.parts
    → ((f id l).parts ≡ (g id l).parts) × ((f id l).groups ≡ (g id l).groups))
    → GroupSteps a v b w g
as_step a b v w f g step same t groups id l e s =
    let h = same t id l (there t groups v l id a e s) s.keeps in
    came_as t (slice_set groups id b) w l (f id l) (g id l) h.0 h.1 (step t groups id l e s)

-- a group changes alone
pub set_steps : (a b : Held) (v : View) (f : ℕ → Loop → Loop) (change : Parts → Group → Group)
    → ((id : ℕ) (l : Loop) → (f id l).parts ≡ l.parts)
    → ((id : ℕ) (l : Loop) → (f id l).groups ≡ slice_set l.groups id (change l.parts (group_of l id)))
    → ((t : NameMap) (p : Parts) (group : Group) → Keeps t v p → KeepsGroup t p a group → KeepsGroup t p b (change p group))
    → GroupSteps a v b v f
set_steps a b v f change parts_same groups_same keeps t groups id l e s =
    let new = change l.parts (group_of l id) in
    came_as t (slice_set groups id b) v l (set_group id new l) (f id l) (sym (parts_same id l)) (sym (groups_same id l)) (record {
      name_map = t;
      stands = set_stands t groups v l id a b new e s
          (keeps t l.parts (group_of l id) s.keeps (there t groups v l id a e s).is);
      extends = same_extends t l.parts l.parts (omega arith);
      goes_on = same_on l.parts;
    })

-- the parts change alone
pub parts_steps : (a : Held) (v w : View) (f : ℕ → Loop → Loop)
    → ((t : NameMap) (id : ℕ) (l : Loop) → There t a id l → Keeps t v l.parts
    → Kept t l.parts w (f id l).parts × (PartsGoOn l.parts (f id l).parts × ((f id l).groups ≡ l.groups)))
    → GroupSteps a v a w f
parts_steps a v w f by t groups id l e s =
    let h = by t id l (there t groups v l id a e s) s.keeps in
    subst (λ gs. Came t l gs w (f id l)) (sym (set-same groups id a e)) (parts_came t groups v w l (f id l) s h.0 h.1.0 h.1.1)
