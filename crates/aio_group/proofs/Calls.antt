-- A call on the groups, by what it made of one group.
use Rattle.std.proofs.Common.{◌≡◌, ℕ, zero, suc, ◌<◌, ◌≤◌, ◌&&◌, not, true, List, [], ◌∷◌, Option, Some, None, Result, Ok, Err, length, slice_get}
use Rattle.std.proofs.Common.{slice_set, refl, ap, sym, subst, ◌∙◌, arith, IfOk}
use Rattle.std.proofs.lemmas.Bool.{false≢true}
use Rattle.std.proofs.lemmas.Result.{IfOk-weaker, on_err_weaker}
use Rattle.std.specs.Prelude.{OnErr, slice_index_or}
use Rattle.model_loop.proofs.GroupCases.{create_unless}
use Rattle.model_loop.specs.Cancel.{has_seen}
use Rattle.model_loop.specs.Groups.{Exited, Refusal, NotEntered, IsFinished, IsShuttingDown, new_group, group_of, refusal, create}
use Rattle.model_loop.specs.Loop.{Loop}
use Rattle.model_loop.specs.Parts.{profile_named}
use Rattle.model_loop.specs.Tasks.{next_task}
use Rattle.aio_task.specs.View.{View}
use Rattle.aio_task.specs.Keeps.{NameMap}
use Rattle.aio_group.specs.declared.created.Created.{Created}
use Rattle.aio_group.specs.declared.created.Created.TheVariants as created
use Rattle.aio_group.specs.declared.exit.GroupExit.{GroupExit}
use Rattle.aio_group.specs.Answers.{created_of, exit_of}
use Rattle.aio_group.specs.Exits.{Exits}
use Rattle.aio_group.specs.GoesOn.{Moves}
use Rattle.aio_group.specs.Held.{Held, new_held, held_at, shown}
use Rattle.aio_group.specs.Stands.{Belongs, AllBelong, GroupsStand, Came, GroupSteps}
use Rattle.aio_group.proofs.Belonging.{all_belong_on, all_belong_set}
use Rattle.aio_group.proofs.Listing.{get_past, index_past, set-same}
use Rattle.aio_group.proofs.Numbering.{none_there, refused_stands}
use Rattle.aio_group.proofs.Standing.{stays}

pub on_err : {T E P : Type 0} (r : Result T E) → P → OnErr r P
on_err (Ok value) p = tt
on_err (Err cause) p = p

-- ---- a group that is there
pub get_of : (groups : List Held) (id : ℕ) (held : Held) → id < length groups → held ≡ slice_index_or groups id held
    → slice_get groups id ≡ Some held
get_of [] id held m e = absurd (omega (arith, m))
get_of (x ∷ groups) zero held m e = ap Some (sym e)
get_of (x ∷ groups) (suc id) held m e = get_of groups id held (omega (arith, m)) e

-- the group of a number, in the list that the fields hold and in the one that contracts see
pub record Found (items seen : List Held) (id : ℕ) (held : Held) : Type 0 where
  pub same : items ≡ seen
  pub at : slice_get items id ≡ Some held

pub found : {items seen : List Held} (id : ℕ) (held : Held) → items ≡ seen → id < length items → held ≡ slice_index_or items id held
    → Found items seen id held
found {items} id held same below is = record { same = same; at = get_of items id held below is }

module _ {items seen : List Held} {id : ℕ} {held : Held} (f : Found items seen id held) where
  pub found_belongs : (v : View) → AllBelong v seen → Belongs v held
  found_belongs v all = all id held (ap (λ gs. slice_get gs id) (sym f.same) ∙ f.at)

  pub found_stands : (t : NameMap) (v : View) (l : Loop) → GroupsStand t seen v l → GroupsStand t items v l
  found_stands t v l s = subst (λ gs. GroupsStand t gs v l) (sym f.same) s

  -- nothing became of it
  pub kept_same : slice_set items id held ≡ seen
  kept_same = set-same items id held f.at ∙ f.same

  -- it became another one
  module _ (v w : View) (new : Held) where
    pub changed_belong : AllBelong v seen → Moves v w → Belongs w new → AllBelong w (slice_set items id new)
    changed_belong all moves is =
        all_belong_set w items id held new f.at (all_belong_on v w moves items (subst (λ gs. AllBelong v gs) (sym f.same) all)) is

    pub changed_came : (step : ℕ → Loop → Loop) → GroupSteps held v new w step → (t : NameMap) (l : Loop) → GroupsStand t seen v l
        → Came t l (slice_set items id new) w (step id l)
    changed_came step steps t l s = steps t items id l f.at (found_stands t v l s)

    pub exit_came : {E : Type 0} (result : Result GroupExit E) (step : ℕ → Loop → Exited)
        → IfOk result (λ exit. Exits held v new w step exit)
        → IfOk result (λ exit. (t : NameMap) (l : Loop) → GroupsStand t seen v l → l.profile ≡ profile_named v.profile
        → Came t l (slice_set items id new) w (step id l).loop × (exit_of exit ≡ (step id l).answer))
    exit_came result step = IfOk-weaker result _ _ (λ exit steps t l s ruled. steps t items id l f.at (found_stands t v l s) ruled)

    pub err_came : {T E : Type 0} (result : Result T E) → OnErr result ((new ≡ held) × (w ≡ v))
        → OnErr result ((slice_set items id new ≡ seen) × (w ≡ v))
    err_came result = on_err_weaker result (λ e. (ap (λ h. slice_set items id h) e.0 ∙ kept_same, e.1))

-- ---- a group that isn't
pub none_at : {items seen : List Held} (id : ℕ) → items ≡ seen → length items ≤ id → slice_get seen id ≡ None
none_at {items} id same past = ap (λ gs. slice_get gs id) (sym same) ∙ get_past items id past

-- it isn't entered, has no child and doesn't wait
pub none_is_new : (groups : List Held) (id : ℕ) → slice_get groups id ≡ None → held_at groups id ≡ new_held 0
none_is_new groups id e = index_past groups id (new_held 0) e

pub none_entered : (groups : List Held) (id : ℕ) → slice_get groups id ≡ None → (held_at groups id).entered ≡ true → ⊥
none_entered groups id e h = false≢true (sym (ap (λ (x : Held). x.entered) (none_is_new groups id e)) ∙ h)

pub none_child : (groups : List Held) (id child : ℕ) → slice_get groups id ≡ None → has_seen (held_at groups id).children child ≡ true → ⊥
none_child groups id child e h =
    false≢true (sym (ap (λ (x : Held). has_seen x.children child) (none_is_new groups id e)) ∙ h)

pub none_going : (groups : List Held) (id : ℕ) → slice_get groups id ≡ None
    → ((held_at groups id).exiting && not (held_at groups id).ended) ≡ true → ⊥
none_going groups id e h = false≢true (sym (ap (λ (x : Held). x.exiting && not x.ended) (none_is_new groups id e)) ∙ h)

-- ---- a task is made, or none is
pub not_entered_came : (t : NameMap) (groups : List Held) (v : View) (l : Loop) (id : ℕ) → slice_get groups id ≡ None → GroupsStand t groups v l
    → Came t l groups v (create id l) × (created.NotEntered ≡ created_of (refusal (group_of l id)) (next_task l.parts))
not_entered_came t groups v l id e s =
    let fresh : group_of l id ≡ new_group 0 = index_past l.groups id (new_group 0) (none_there t groups v l id e s) in
    let same : create id l ≡ l = ap (λ g. create_unless (refusal g) id l) fresh in
    (subst (λ m. Came t l groups v m) (sym same) (stays t groups v l s), sym (ap (λ g. created_of (refusal g) (next_task l.parts)) fresh))

pub not_refused : (o : Option Refusal) → ((task : ℕ) → created_of o task ≡ created.Task task) → o ≡ None
not_refused None f = refl
not_refused (Some NotEntered) f = let e : created.NotEntered ≡ created.Task 0 = f 0 in absurd (cc)
not_refused (Some IsFinished) f = let e : created.Finished ≡ created.Task 0 = f 0 in absurd (cc)
not_refused (Some IsShuttingDown) f = let e : created.ShuttingDown ≡ created.Task 0 = f 0 in absurd (cc)

pub refused_came : (t : NameMap) (groups : List Held) (v : View) (l : Loop) (id : ℕ) (held : Held) (refused : Created)
    → slice_get groups id ≡ Some held → ((task : ℕ) → created_of (refusal (shown held)) task ≡ refused) → GroupsStand t groups v l
    → Came t l groups v (create id l) × (refused ≡ created_of (refusal (group_of l id)) (next_task l.parts))
refused_came t groups v l id held refused e f s = at (refusal (shown held)) refl f
  where
    at : (o : Option Refusal) → refusal (shown held) ≡ o → ((task : ℕ) → created_of o task ≡ refused)
        → Came t l groups v (create id l) × (refused ≡ created_of (refusal (group_of l id)) (next_task l.parts))
    at None r g =
        let first : created.Task 0 ≡ refused = g 0 in
        let second : created.Task 1 ≡ refused = g 1 in
        absurd (cc)
    at (Some cause) r g =
        let h = refused_stands t groups v l id held cause e s r in
        (h.0, sym (g (next_task l.parts)) ∙ h.1)
