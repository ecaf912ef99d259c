-- What the calls on groups require holds where a sound state is stood for.
use Rattle.std.proofs.Common.{◌≡◌, ℕ, zero, suc, ◌<◌, Bool, true, false, cond, not, ◌&&◌, ◌||◌, List, [], ◌∷◌, Option, Some, None, length, slice_get, ◌∙◌, refl}
use Rattle.std.proofs.Common.{sym, ap, subst, arith}
use Rattle.std.specs.Prelude.{nat_eq}
use Rattle.std.specs.List.{AllByRecursion as Each, list_any}
use Rattle.std.proofs.Props.{props}
use Rattle.std.proofs.lemmas.Bool.{eq-eqb}
use Rattle.std.proofs.lemmas.List.Sums.{sum_by-cons}
use Rattle.model_value.specs.declared.action.Action.TheVariants.{GroupDone}
use Rattle.model_value.specs.declared.request.Request.TheVariants as request
use Rattle.model_value.specs.Value.{Value, Exc}
use Rattle.model_says.specs.Endings.{Asks}
use Rattle.model_says.specs.Says.{step_limit}
use Rattle.model_loop.specs.Cancel.{has_seen}
use Rattle.model_loop.specs.Children.{HasPlainExit, IsTold, tells}
use Rattle.model_loop.specs.Groups.{group_of, new_group}
use Rattle.model_loop.specs.Loop.{Group, Loop}
use Rattle.model_loop.specs.Numbered.{occurrences}
use Rattle.model_loop.specs.Parts.{Handle, Parts}
use Rattle.model_loop.specs.Totals.{pending_where}
use Rattle.model_machine.specs.Arguments.{as_group}
use Rattle.model_machine.specs.Extra.{Extra}
use Rattle.model_machine.specs.State.{State}
use Rattle.model_machine.specs.Step.{says_of}
use Rattle.law_steps.proofs.CancelSound.{plain_within}
use Rattle.law_replies.specs.InStep.{IsStepSound}
use Rattle.law_replies.proofs.Replying.{fits_in}
use Rattle.aio_task.specs.View.{View}
use Rattle.aio_task.specs.Keeps.{NameMap}
use Rattle.aio_group.proofs.Listing.{all_to, index_at, index_past}
use Rattle.aio_group.proofs.Standing.{there}
use Rattle.aio_group.specs.Held.{Held, held_at, new_held, shown}
use Rattle.aio_group.specs.Stands.{AllBelong, Belongs, IsLive, IsOwn, KeepsAt, StandForGroups, bare}
use Rattle.aio_extra.specs.Added.{Added}
use Rattle.aio_body.specs.declared.run_state.RunState.{RunState}
use Rattle.aio_body.specs.Stands.{Context, Stands}
use Rattle.refine_parts.proofs.Telling.{next_kept, owner_kept}
use Rattle.aio_serve.proofs.GroupsOn.{groups_stand}

-- ---- that groups belong to the parts has one proof
made_prop : (n : ℕ) (tasks : List ℕ) → IsProp (Each (λ task. task < n) tasks)
made_prop n [] = hlevel
made_prop n (task ∷ tasks) =
    let first : IsProp (task < n) = hlevel props in
    let others : IsProp (Each (λ it. it < n) tasks) = made_prop n tasks in
    hlevel (first, others)

exit_prop : (v : View) (held : Held) → IsProp ((future : ℕ) → held.exit_future ≡ Some future → IsOwn v future)
exit_prop v held = hlevel props

belongs_prop : (v : View) (held : Held) → IsProp (Belongs v held)
belongs_prop v held x y =
    let children_prop = made_prop (length v.tasks) held.children in
    let exits_prop = exit_prop v held in
    λ i. record { children = children_prop x.children y.children i; exit = exits_prop x.exit y.exit i }

pub all_belong_prop : (v : View) (groups : List Held) → IsProp (AllBelong v groups)
all_belong_prop v groups = hlevel (belongs_prop v)

-- ---- a group in code is the machine's
-- also one that isn't there
pub shown_is : (t : NameMap) (v : View) (p : Parts) (groups : List Held) (l : Loop) (id : ℕ) → StandForGroups t groups v p l.groups
    → shown (held_at groups id) ≡ bare (group_of l id)
shown_is t v p groups l id s = at (slice_get groups id) (slice_get l.groups id) refl refl (s.each id)
  where
    at : (held : Option Held) (group : Option Group) → slice_get groups id ≡ held → slice_get l.groups id ≡ group → KeepsAt t p held group
        → shown (held_at groups id) ≡ bare (group_of l id)
    at None None e d is = ap shown (index_past groups id (new_held 0) e) ∙ ap bare (sym (index_past l.groups id (new_group 0) d))
    at (Some held) (Some group) e d is =
        ap shown (index_at groups id held (new_held 0) e) ∙ is.same ∙ ap bare (sym (index_at l.groups id group (new_group 0) d))
    at None (Some group) e d is = absurd is
    at (Some held) None e d is = absurd is

-- as many
pub same_many : (t : NameMap) (p : Parts) (groups : List Held) (plain : List Group)
    → ((id : ℕ) → KeepsAt t p (slice_get groups id) (slice_get plain id)) → length groups ≡ length plain
same_many t p [] [] each = refl
same_many t p [] (y ∷ plain) each = absurd (each zero)
same_many t p (x ∷ groups) [] each = absurd (each zero)
same_many t p (x ∷ groups) (y ∷ plain) each = ap suc (same_many t p groups plain (λ id. each (suc id)))

module _ {X : Type 0} {a : Added X} where
  -- what groups keep belongs to the parts, where exits wait for plain futures
  pub all_belong : (out : Option ℕ) (c : Context a) (body : RunState X) (s : State a.Kept) → Stands out c body s
      → ((id : ℕ) → HasPlainExit s.loop.parts (group_of s.loop id)) → AllBelong body.parts body.groups
  all_belong out c body s h plain id held e =
      let it = there h.name_map body.groups body.parts s.loop id held e (groups_stand out c body s h) in
      record {
        children =
            all_to (IsLive h.name_map s.loop.parts) (λ task. task < length body.parts.tasks) held.children
            (λ task live. subst (λ (n : ℕ). task < n) (sym (ap length h.keeps.tasks)) live.made) it.is.children;
        exit = λ future x.
            let waits : (group_of s.loop id).exit_future ≡ Some future = sym (ap (λ (g : Group). g.exit_future) it.is.same) ∙ x in
            let is = plain_within s.loop.parts future (plain id future waits) in (
              subst (λ (n : ℕ). future < n) (sym (next_kept h.name_map body.parts s.loop.parts h.keeps)) is.1,
              owner_kept h.name_map body.parts s.loop.parts h.keeps future is.0,
            );
      }

-- ---- the block of a group ends
pub record MayExit {S : Type 0} (s : State S) (id : ℕ) : Type 0 where
  pub entered : (group_of s.loop id).entered ≡ true
  pub fresh : (group_of s.loop id).exiting ≡ false

pub may_exit : {S : Type 0} (added : Extra S) (task : ℕ) (s : State S) (group : Value) (raised : Option Exc) (id : ℕ) → IsStepSound added task s
    → says_of step_limit added task s ≡ Asks (request.GroupExit group raised) → as_group group ≡ Some id → MayExit s id
may_exit added task s group raised id sound says named =
    let fit = fits_in added task s sound (request.GroupExit group raised) says refl id named in
    record { entered = fit.1; fresh = fit.2 }

-- ---- a child is done
seen_of : (tasks : List ℕ) (task : ℕ) → 0 < occurrences task tasks → has_seen tasks task ≡ true
seen_of [] task m = absurd (omega (arith, m))
seen_of (it ∷ tasks) task m = at (nat_eq task it) refl (λ k. seen_of tasks task k)
  where
    at : (b : Bool) → nat_eq task it ≡ b → (0 < occurrences task tasks → has_seen tasks task ≡ true) → (b || list_any (nat_eq task) tasks) ≡ true
    at true e others = refl
    at false e others =
        let c = sum_by-cons (λ x. cond (nat_eq task x) 1 0) it tasks in
        let none : ◌≡◌ {A = ℕ} (cond (nat_eq task it) 1 0) 0 = ap (λ b. cond b 1 0) e in
        others (omega (arith, m, c, none))

-- a handle that tells of it is pending
pub is_child : (id task : ℕ) (told : List ℕ) (group : Group) (p : Parts) (handle : Handle) (rest : List Handle) → IsTold p id told group
    → p.pending ≡ handle ∷ rest → handle.dead ≡ false → handle.action ≡ GroupDone id task → has_seen group.children task ≡ true
is_child id task told group p handle rest is first live action =
    let all = is.tellings task in
    let c =
    ap (pending_where (tells id task)) first
    ∙ sum_by-cons (λ (h : Handle). cond (not h.dead && tells id task h.action) 1 0) handle rest in
    let one : ◌≡◌ {A = ℕ} (cond (not handle.dead && tells id task handle.action) 1 0) 1 =
    ap (λ d. cond (not d && tells id task handle.action) 1 0) live ∙ ap (λ a. cond (tells id task a) 1 0) action
    ∙ rw (eq-eqb id id refl, eq-eqb task task refl) refl in
    seen_of group.children task (omega (arith, all, c, one))
