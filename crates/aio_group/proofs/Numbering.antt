-- Groups are made, entered and given tasks.
use Rattle.std.proofs.Common.{◌≡◌, ℕ, zero, suc, ◌⊎◌, true, false, List, [], ◌∷◌, ◌++◌, Option, Some, None, length, slice_get, slice_set, refl, ap, sym, subst}
use Rattle.std.proofs.Common.{◌∙◌, inl, inr, arith, length-append}
use Rattle.std.proofs.lemmas.Bool.{cases_Bool, false≢true}
use Rattle.model_value.specs.declared.action.Action.TheVariants.{GroupDone}
use Rattle.model_loop.proofs.GroupCases.{create_unless}
use Rattle.model_loop.specs.Futures.{next_future}
use Rattle.model_loop.specs.Groups.{Refusal, new_group, group_of, set_group, make_group, enter_group, refusal, with_child, create}
use Rattle.model_loop.specs.Loop.{Group, Loop, in_parts}
use Rattle.model_loop.specs.Parts as plain
use Rattle.model_loop.specs.Parts.{Parts}
use Rattle.model_loop.specs.Tasks.{future_of, next_task, spawn}
use Rattle.aio_task.specs.View.{View}
use Rattle.aio_task.specs.Keeps.{NameMap, Keeps, Kept}
use Rattle.aio_group.specs.declared.created.Created.TheVariants as created
use Rattle.aio_group.specs.Answers.{created_of}
use Rattle.aio_group.specs.Held.{Held, new_held, shown}
use Rattle.aio_group.specs.Stands.{IsLive, KeepsGroup, KeepsAt, StandForGroups, GroupsStand, Came}
use Rattle.aio_group.proofs.Flags.{enters}
use Rattle.aio_group.proofs.Going.{with_child_on, register_on}
use Rattle.aio_group.proofs.Laws.{tasks_made}
use Rattle.aio_group.proofs.Listing.{set_past, all_push}
use Rattle.aio_group.proofs.Spawning.{own_future_of}
use Rattle.aio_group.proofs.Standing.{there, parts_came, set_stands, stays}

-- ---- a group more
new_keeps : (t : NameMap) (p : Parts) (parent : ℕ) → KeepsGroup t p (new_held parent) (new_group parent)
new_keeps t p parent = record {
  same = refl;
  children = tt;
  failed = tt;
  faults = λ _. record { errors = refl; body = refl; kept = refl };
  early = λ _. (refl, refl);
  late = λ e. absurd (false≢true e);
}

each_push : (t : NameMap) (p : Parts) (held : Held) (group : Group) → KeepsGroup t p held group → (groups : List Held) (plain : List Group)
    → ((id : ℕ) → KeepsAt t p (slice_get groups id) (slice_get plain id))
    → (id : ℕ) → KeepsAt t p (slice_get (groups ++ held ∷ []) id) (slice_get (plain ++ group ∷ []) id)
each_push t p held group is [] [] each zero = is
each_push t p held group is [] [] each (suc id) = tt
each_push t p held group is [] (y ∷ plain) each id = absurd (each zero)
each_push t p held group is (x ∷ groups) [] each id = absurd (each zero)
each_push t p held group is (x ∷ groups) (y ∷ plain) each zero = each zero
each_push t p held group is (x ∷ groups) (y ∷ plain) each (suc id) = each_push t p held group is groups plain (λ i. each (suc i)) id

pub make_stands : (t : NameMap) (groups : List Held) (v : View) (l : Loop) (parent : ℕ) → GroupsStand t groups v l
    → GroupsStand t (groups ++ new_held parent ∷ []) v (make_group parent l)
make_stands t groups v l parent s = record {
  keeps = s.keeps;
  each = each_push t l.parts (new_held parent) (new_group parent) (new_keeps t l.parts parent) groups l.groups s.each;
}

-- a group of a number that none has isn't the machine's either
pub none_there : (t : NameMap) (groups : List Held) (v : View) (l : Loop) (id : ℕ) → slice_get groups id ≡ None → GroupsStand t groups v l
    → slice_get l.groups id ≡ None
none_there t groups v l id e s = go (slice_get l.groups id) refl (subst (λ o. KeepsAt t l.parts o (slice_get l.groups id)) e (s.each id))
  where
    go : (o : Option Group) → slice_get l.groups id ≡ o → KeepsAt t l.parts None o → slice_get l.groups id ≡ None
    go None d is = d
    go (Some group) d is = absurd is

pub enter_stands : (t : NameMap) (groups : List Held) (v : View) (l : Loop) (id : ℕ) (held : Held) → slice_get groups id ≡ Some held
    → GroupsStand t groups v l → GroupsStand t (slice_set groups id (record held { entered = true })) v (enter_group id l)
enter_stands t groups v l id held e s =
    set_stands t groups v l id held (record held { entered = true }) (record (group_of l id) { entered = true }) e s
    (enters (there t groups v l id held e s).is)

pub enter_none : (t : NameMap) (groups : List Held) (v : View) (l : Loop) (id : ℕ) → slice_get groups id ≡ None
    → GroupsStand t groups v l → GroupsStand t groups v (enter_group id l)
enter_none t groups v l id e s =
    let same : slice_set l.groups id (record (group_of l id) { entered = true }) ≡ l.groups =
    set_past l.groups id (record (group_of l id) { entered = true }) (none_there t groups v l id e s) in
    subst (λ gs. StandForGroups t groups v l.parts gs) (sym same) s

-- ---- a task more
-- the causes are told by what is held
refusal_same : {t : NameMap} {p : Parts} {held : Held} {group : Group} → KeepsGroup t p held group → refusal (shown held) ≡ refusal group
refusal_same is = ap refusal is.same

pub refused_stands : (t : NameMap) (groups : List Held) (v : View) (l : Loop) (id : ℕ) (held : Held) (cause : Refusal)
    → slice_get groups id ≡ Some held → GroupsStand t groups v l → refusal (shown held) ≡ Some cause
    → Came t l groups v (create id l) × (created_of (Some cause) (next_task l.parts) ≡ created_of (refusal (group_of l id)) (next_task l.parts))
refused_stands t groups v l id held cause e s r =
    let is : refusal (group_of l id) ≡ Some cause = sym (refusal_same (there t groups v l id held e s).is) ∙ r in
    let same : create id l ≡ l = ap (λ o. create_unless o id l) is in
    (subst (λ m. Came t l groups v m) (sym same) (stays t groups v l s), ap (λ o. created_of o (next_task l.parts)) (sym is))

-- the new child lives
child_lives : (t u : NameMap) (v : View) (p : Parts) (id : ℕ) → Keeps t v p → u.gone ≡ t.gone → IsLive u (with_child id p) (next_task p)
child_lives t u v p id k gone =
    let action = GroupDone id (next_task p) in
    let on = register_on (next_future p) action (spawn p) in
    let made = length-append p.tasks (record { future = next_future p; waiter = None; cancels = 0; must_cancel = false } ∷ []) in
    let more = length-append p.futures (record { kind = plain.OfTask (next_task p); outcome = None; callbacks = [] } ∷ []) in
    let tasks = on.tasks in
    let futures = on.futures in
    let own : future_of (with_child id p) (next_task p) ≡ next_future p =
    on.own (next_task p) (omega (arith, made)) ∙ own_future_of p (next_task p) refl in
    record {
      made = omega (arith, made, tasks);
      future = omega (arith, own, more, futures);
      there = ap u.gone own ∙ ap (λ g. g (next_future p)) gone ∙ not_gone (cases_Bool (t.gone (next_future p)));
    }
  where
    not_gone : (t.gone (next_future p) ≡ true) ⊎ (t.gone (next_future p) ≡ false) → t.gone (next_future p) ≡ false
    not_gone (inl g) = let m = k.made (next_future p) g in absurd (omega (arith, m))
    not_gone (inr g) = g

pub created_stands : (t : NameMap) (groups : List Held) (v w : View) (l : Loop) (id task : ℕ) (held new : Held)
    → slice_get groups id ≡ Some held → GroupsStand t groups v l → refusal (shown held) ≡ None → task ≡ length v.tasks
    → new ≡ record held { children = held.children ++ task ∷ [] } → Kept t l.parts w (with_child id l.parts)
    → Came t l (slice_set groups id new) w (create id l)
    × (created.Task task ≡ created_of (refusal (group_of l id)) (next_task l.parts))
created_stands t groups v w l id task held new e s r number same kept =
    let p = l.parts in
    let m = in_parts (with_child id) l in
    let first = parts_came t groups v w l m s kept (with_child_on id p) refl in
    let h = there first.name_map groups w m id held e first.stands in
    let n : task ≡ next_task p = number ∙ tasks_made t v p s.keeps in
    let group = record (group_of l id) {
      children = (group_of l id).children ++ next_task p ∷ [];
      made = (group_of l id).made ++ next_task p ∷ [];
    } in
    let grown : KeepsGroup first.name_map (with_child id p) (record held { children = held.children ++ next_task p ∷ [] }) group = record {
      same = ap (λ (g : Group). record g { children = g.children ++ next_task p ∷ [] }) h.is.same;
      children = all_push (IsLive first.name_map (with_child id p)) held.children (next_task p) h.is.children
          (child_lives t first.name_map v p id s.keeps first.extends.gone);
      failed = h.is.failed;
      faults = λ going. let f = h.is.faults going in record { errors = f.errors; body = f.body; kept = f.kept };
      early = h.is.early;
      late = h.is.late;
    } in
    let new_is : new ≡ record held { children = held.children ++ next_task p ∷ [] } =
    same ∙ ap (λ (i : ℕ). record held { children = held.children ++ i ∷ [] }) n in
    let stands = set_stands first.name_map groups w m id held new group e first.stands
    (subst (λ x. KeepsGroup first.name_map (with_child id p) x group) (sym new_is) grown) in
    let none : refusal (group_of l id) ≡ None = sym (refusal_same (there t groups v l id held e s).is) ∙ r in
    let made : create id l ≡ set_group id group m = ap (λ o. create_unless o id l) none in (
      subst (λ x. Came t l (slice_set groups id new) w x) (sym made) (record {
        name_map = first.name_map;
        stands = stands;
        extends = first.extends;
        goes_on = first.goes_on;
      }),
      ap created.Task n ∙ ap (λ o. created_of o (next_task p)) (sym none),
    )
