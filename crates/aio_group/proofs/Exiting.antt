-- An exit waits, or ends.
use Rattle.std.proofs.Common.{◌≡◌, ℕ, ◌+◌, ◌⊎◌, ◌&&◌, Bool, true, false, not, List, [], ◌∷◌, ◌++◌, Option, Some, None, length, map, slice_get, slice_set, refl}
use Rattle.std.proofs.Common.{ap, sym, subst, ◌∙◌, arith, length-append}
use Rattle.std.specs.Prelude.{is_some, if◌then◌else◌}
use Rattle.std.specs.Option.{option_map_or}
use Rattle.std.proofs.lemmas.Bool.{false≢true}
use Rattle.std.specs.List.{AllByRecursion as Each, filter_map, cons_option}
use Rattle.model_value.specs.declared.input.Input.TheVariants.{Send, Throw}
use Rattle.model_value.specs.Input.{Input}
use Rattle.model_value.specs.Value.{Exc}
use Rattle.model_loop.proofs.GroupCases.{keep_and_abort_unless, take_back_where, wait_or_end_with}
use Rattle.model_loop.specs.Children.{failures}
use Rattle.model_loop.specs.Futures.{new_plain, next_future}
use Rattle.model_loop.specs.Groups.{Exited, Waits, abort, abort_if_raised, at_begin, at_end, begin_exit, group_of, set_group, is_empty, failure_of, body_failure}
use Rattle.model_loop.specs.Groups.{raised_of, end_all, end_exit, exit_begin, wait_for_children, wait_or_end}
use Rattle.model_loop.specs.Loop.{Group, Loop, in_parts}
use Rattle.model_loop.specs.Owning.{owner_at}
use Rattle.model_loop.specs.Parts.{Plain, Future, Task, Parts, Profile, profile_named}
use Rattle.law_cancel.proofs.Lookups.{get-set_same, get-push_last}
use Rattle.aio_task.specs.View.{View, parts}
use Rattle.aio_task.specs.Keeps.{NameMap, Keeps, Extends}
use Rattle.aio_group.specs.declared.exit.ExitStep.{ExitStep}
use Rattle.aio_group.specs.declared.exit.ExitStep.TheVariants as next
use Rattle.aio_group.specs.Answers.{answer_of, ended_with, exit_of, fault_of, gone_on, raised_or_passed}
use Rattle.aio_group.specs.Exits.{WaitsMade, IsNext, Exits, begun, heard, last_step, ruled, taken_back}
use Rattle.aio_group.specs.GoesOn.{PartsGoOn, Moves}
use Rattle.aio_group.specs.Held.{Held, listed}
use Rattle.aio_group.specs.Stands.{IsOwn, Belongs, IsLive, KeepsFaults, KeepsGroup, GroupsStand, Came, GroupSteps}
use Rattle.aio_group.proofs.Belonging.{own_on, belongs_on, belongs_as}
use Rattle.aio_group.proofs.Flags.{children_same}
use Rattle.aio_group.proofs.Going.{new_plain_on, then_on}
use Rattle.aio_group.proofs.Laws.{kept_new_plain, futures_made}
use Rattle.aio_group.proofs.Listing.{set-set, all_to, some_each}
use Rattle.aio_group.proofs.Standing.{same_extends, then_extends, errors_on, groups_on, there, then_steps, set_stands}
use Rattle.aio_group.proofs.Stepping.{failure_same}
use Rattle.aio_group.proofs.Waiting.{Passes, IsMade}

-- ---- the exception of all failures
-- those that failed, by what each raised
failures_are : (f : ℕ → Option Exc) (tasks : List ℕ) (errors : List Exc) → map f tasks ≡ map Some errors → filter_map f tasks ≡ errors
failures_are f [] [] e = refl
failures_are f [] (error ∷ errors) e = absurd (cc)
failures_are f (task ∷ tasks) [] e = absurd (cc)
failures_are f (task ∷ tasks) (error ∷ errors) e =
    let first : f task ≡ Some error = cc in
    let others : map f tasks ≡ map Some errors = cc in
    ap (λ o. cons_option o (filter_map f tasks)) first ∙ ap (λ es. error ∷ es) (failures_are f tasks errors others)

failures_seen : (t : NameMap) (v : View) (p : Parts) (tasks : List ℕ) → Keeps t v p → Each (IsLive t p) tasks
    → failures (parts v) tasks ≡ failures p tasks
failures_seen t v p [] k live = refl
failures_seen t v p (task ∷ tasks) k live =
    ap (λ o. cons_option o (failures (parts v) tasks)) (failure_same t v p task k live.0)
    ∙ ap (cons_option (failure_of p task)) (failures_seen t v p tasks k live.1)

raised_is : (errors : List Exc) → exit_of (raised_or_passed (fault_of errors)) ≡ raised_of errors
raised_is [] = refl
raised_is (error ∷ errors) = refl

-- whether any child failed is told by the errors
none_failed : (f : ℕ → Option Exc) (failed : List ℕ) → map f failed ≡ map Some [] → failed ≡ []
none_failed f [] e = refl
none_failed f (task ∷ failed) e = absurd (cc)

some_failed : (f : ℕ → Option Exc) (failed : List ℕ) (error : Exc) (errors : List Exc) (kept fault : Option Exc)
    → map f failed ≡ map Some (error ∷ errors) → ended_with kept failed fault ≡ raised_or_passed fault
some_failed f [] error errors kept fault e = absurd (cc)
some_failed f (task ∷ failed) error errors None fault e = refl
some_failed f (task ∷ failed) error errors (Some cancelled) fault e = refl

-- ---- an exit ends
-- A group whose exit ends without children.
module _ (t : NameMap) (groups : List Held) (v : View) (id : ℕ) (m : Loop) (held : Held) (fault : Option Exc)
    (e : slice_get groups id ≡ Some held) (s : GroupsStand t groups v m) (going : held.ended ≡ false) (began : held.exiting ≡ true)
    (waits : held.exit_future ≡ None)
    (is_fault : fault ≡ fault_of ((group_of m id).errors ++ body_failure (group_of m id).body)) where
  abbrev group : Group
  group = group_of m id

  is : KeepsGroup t m.parts held group
  is = (there t groups v m id held e s).is

  faults : KeepsFaults m.parts held group
  faults = is.faults going

  abbrev last : Held
  last = record held { ended = true; body = None; kept = None }

  ended : (errors : List Exc) → KeepsGroup t m.parts last (record group { ended = true; errors = errors })
  ended errors = record {
    same = ap (λ (g : Group). record g { ended = true }) is.same;
    children = is.children;
    failed = is.failed;
    faults = λ o. absurd (false≢true (sym o));
    early = λ o. absurd (false≢true (sym o ∙ began));
    late = λ _. waits;
  }

  abbrev pub Ends : Exited → Type 0
  Ends x = GroupsStand t (slice_set groups id last) v x.loop
      × ((x.loop.parts ≡ m.parts) × (exit_of (ended_with held.kept held.failed fault) ≡ x.answer))

  all_raised : (errors : List Exc) → group.errors ≡ errors → (kept : Option Exc)
      → ended_with held.kept held.failed fault ≡ raised_or_passed fault → end_exit kept errors id m
      ≡ record {
        loop = set_group id (record group { ended = true; errors = errors ++ body_failure group.body }) m;
        answer = raised_of (errors ++ body_failure group.body);
      }
      → Ends (end_exit kept errors id m)
  all_raised errors same kept answer x =
      subst Ends (sym x) (
        set_stands t groups v m id held last (record group { ended = true; errors = errors ++ body_failure group.body }) e s
            (ended (errors ++ body_failure group.body)),
        (
          refl,
          ap exit_of answer ∙ ap (λ f. exit_of (raised_or_passed f)) is_fault
              ∙ ap (λ es. exit_of (raised_or_passed (fault_of (es ++ body_failure group.body)))) same
              ∙ raised_is (errors ++ body_failure group.body),
        ),
      )

  ends_by : (kept : Option Exc) (errors : List Exc) → group.kept ≡ kept → group.errors ≡ errors → Ends (end_exit kept errors id m)
  ends_by None [] k d =
      let none : held.kept ≡ None = faults.kept ∙ k in
      all_raised [] d None (ap (λ o. ended_with o held.failed fault) none) refl
  ends_by None (error ∷ errors) k d =
      let none : held.kept ≡ None = faults.kept ∙ k in
      all_raised (error ∷ errors) d None (ap (λ o. ended_with o held.failed fault) none) refl
  ends_by (Some cancelled) (error ∷ errors) k d =
      all_raised (error ∷ errors) d (Some cancelled)
      (some_failed (failure_of m.parts) held.failed error errors held.kept fault (faults.errors ∙ ap (map Some) d)) refl
  ends_by (Some cancelled) [] k d =
      let some : held.kept ≡ Some cancelled = faults.kept ∙ k in
      let none : held.failed ≡ [] = none_failed (failure_of m.parts) held.failed (faults.errors ∙ ap (map Some) d) in (
        subst (λ es. GroupsStand t (slice_set groups id last) v (set_group id (record group { ended = true; errors = es }) m)) refl
            (set_stands t groups v m id held last (record group { ended = true }) e s (ended group.errors)),
        (refl, ap (λ o. exit_of (ended_with o held.failed fault)) some ∙ ap (λ ts. exit_of (ended_with (Some cancelled) ts fault)) none),
      )

  pub exit_ends : Ends (end_exit group.kept group.errors id m)
  exit_ends = ends_by group.kept group.errors refl refl

-- no child is left
ended_as : (id : ℕ) (m : Loop) (children : List ℕ) → is_empty children ≡ true → wait_or_end_with children id m ≡ end_all id m
ended_as id m [] d = refl
ended_as id m (child ∷ others) d = absurd (cc)

-- by the profile that the loop runs by
ended_by : (profile : Profile) (id : ℕ) (m : Loop) → m.profile ≡ profile → end_all id m
    ≡ (let last = taken_back profile (at_end profile) id m in end_exit (group_of last id).kept (group_of last id).errors id last)
ended_by profile id m e =
    subst (λ (p : Profile). end_all id m
    ≡ (let last = taken_back p (at_end p) id m in end_exit (group_of last id).kept (group_of last id).errors id last)) e refl

-- ---- an exit waits
waits_as : (id : ℕ) (m : Loop) (children : List ℕ) → is_empty children ≡ false → wait_or_end_with children id m ≡ wait_for_children id m
waits_as id m [] d = absurd (cc)
waits_as id m (child ∷ children) d = refl

-- the machine's tasks wait as those in code do
waits_seen : (t : NameMap) (v : View) (p : Parts) → Keeps t v p → WaitsMade (parts v) → WaitsMade p
waits_seen t v p k made task on e =
    let m = made task on (ap (λ (ts : List Task). option_map_or (λ (it : Task). it.waiter) (slice_get ts task) None) k.tasks ∙ e) in
    let n = futures_made t v p k in
    omega (arith, m, n)

-- ---- the whole
-- what a step of the exit leaves of a group, but for its flags and what it keeps
pub record LeftByExit (a b : Held) (failure : Option Exc) : Type 0 where
  pub children : b.children ≡ a.children
  pub failed : b.failed ≡ a.failed
  pub body : b.body ≡ failure
  pub exiting : b.exiting ≡ true
  pub ended : b.ended ≡ false
  pub exit_future : b.exit_future ≡ None

-- what is kept may be dropped last
left_last : (a b c : Held) (body : Option Exc) → c ≡ record b { kept = c.kept } → LeftByExit a b body → LeftByExit a c body
left_last a b c body same left = record {
  children = ap (λ (h : Held). h.children) same ∙ left.children;
  failed = ap (λ (h : Held). h.failed) same ∙ left.failed;
  body = ap (λ (h : Held). h.body) same ∙ left.body;
  exiting = ap (λ (h : Held). h.exiting) same ∙ left.exiting;
  ended = ap (λ (h : Held). h.ended) same ∙ left.ended;
  exit_future = ap (λ (h : Held). h.exit_future) same ∙ left.exit_future;
}

module _ (a b : Held) (body : Option Exc) (v w x : View) (profile : Profile) (step : ℕ → Loop → Loop) (whole : ℕ → Loop → Exited)
    (by_profile : profile_named v.profile ≡ profile) (is_whole : (id : ℕ) (l : Loop) → l.profile ≡ profile → whole id l ≡ wait_or_end id (step id l))
    (left : LeftByExit a b body) (going : a.ended ≡ false) where
  waiting : (t : NameMap) (p : Parts) (group : Group) (future number : ℕ) → future ≡ number → KeepsGroup t p b group
      → KeepsGroup t p (record b { exit_future = Some future }) (record group { exit_future = Some number })
  waiting t p group future number at is = record {
    same = ap (λ (g : Group). record g { exit_future = Some future }) is.same
        ∙ ap (λ (n : ℕ). record group { made = []; errors = []; body = None; kept = None; exit_future = Some n }) at;
    children = is.children;
    failed = is.failed;
    faults = λ o. let f = is.faults o in record { errors = f.errors; body = f.body; kept = f.kept };
    early = λ o. absurd (false≢true (sym o ∙ left.exiting));
    late = λ o. absurd (false≢true (sym left.ended ∙ o));
  }

  -- children are left
  pub exit_goes_on_waiting : (future : ℕ) → is_empty a.children ≡ false → future ≡ length v.futures
      → w ≡ record v { futures = v.futures ++ record { kind = Plain; outcome = None; callbacks = [] } ∷ [] } → WaitsMade (parts v)
      → ((id : ℕ) (l : Loop) → WaitsMade l.parts → Each (IsMade l.parts) (group_of l id).children
      → slice_get l.groups id ≡ Some (group_of l id) → Passes (step id) l)
      → GroupSteps a w b x step
      → Exits a v (gone_on (next.Waits future) b) x whole (answer_of (next.Waits future) b)
  exit_goes_on_waiting future some number plain made passes steps t groups id l e s ruled =
      let p = l.parts in
      let h = there t groups v l id a e s in
      let l1 = in_parts new_plain l in
      let s1 : GroupsStand t groups w l1 = record {
        keeps = subst (λ y. Keeps t y (new_plain p)) (sym plain) (kept_new_plain t v p s.keeps);
        each = groups_on t t p (new_plain p) (new_plain_on p) refl groups l.groups s.each;
      } in
      let all : Each (IsMade p) (group_of l id).children =
      subst (λ cs. Each (IsMade p) cs) (children_same h.is)
      (all_to (IsLive t p) (IsMade p) a.children (λ task live. record { made = live.made; future = live.future }) h.is.children) in
      let pass = passes id l (waits_seen t v p s.keeps made) all h.at in
      let m = step id l in
      let m1 = in_parts new_plain m in
      let c1 : Came t l1 (slice_set groups id b) x m1 =
      subst (λ z. Came t l1 (slice_set groups id b) x z) pass.same (steps t groups id l1 e s1) in
      let e1 = get-set_same groups id a b e in
      let h1 = there c1.name_map (slice_set groups id b) x m1 id b e1 c1.stands in
      let kept = pass.leaves.made in
      let of_view = futures_made t v p s.keeps in
      let at : future ≡ next_future m.parts = number ∙ of_view ∙ sym kept in
      let new = record (group_of m1 id) { exit_future = Some (next_future m.parts) } in
      let c : Held = record b { exit_future = Some future } in
      let waits : KeepsGroup c1.name_map m1.parts c new = waiting c1.name_map m1.parts (group_of m1 id) future (next_future m.parts) at h1.is in
      let stands = set_stands c1.name_map (slice_set groups id b) x m1 id b c new e1 c1.stands waits in
      let some_left : is_empty (group_of m id).children ≡ false =
      ap is_empty (sym (children_same h1.is)) ∙ ap is_empty left.children ∙ some in
      let is : whole id l ≡ wait_for_children id m = is_whole id l (ruled ∙ by_profile) ∙ waits_as id m (group_of m id).children some_left in
      subst (λ (y : Exited). Came t l (slice_set groups id c) x y.loop × (exit_of (answer_of (next.Waits future) b) ≡ y.answer)) (sym is) (
        record {
          name_map = c1.name_map;
          stands = subst (λ gs. GroupsStand c1.name_map gs x (set_group id new m1)) (set-set groups id b c) stands;
          extends = then_extends t t c1.name_map p (new_plain p) m1.parts (same_extends t p (new_plain p) (omega arith)) c1.extends;
          goes_on = then_on p (new_plain p) m1.parts (new_plain_on p) c1.goes_on;
        },
        ap Waits at,
      )

  -- none is
  pub exit_goes_on_ending : (fault : Option Exc) (c : Held) (y : View) → is_empty a.children ≡ true
      → fault ≡ fault_of (failures (parts v) a.failed ++ listed body) → c ≡ record b { kept = c.kept }
      → ((id : ℕ) (l : Loop) → l.profile ≡ profile → (step id l).profile ≡ profile)
      → GroupSteps a v b x step → GroupSteps b x c y (taken_back profile (at_end profile))
      → Exits a v (gone_on (next.Ends fault) c) y whole (answer_of (next.Ends fault) c)
  exit_goes_on_ending fault c y none is_fault same_last rules steps last t groups id l e s ruled =
      let m0 = step id l in
      let c0 = steps t groups id l e s in
      let e0 = get-set_same groups id a b e in
      let h0 = there c0.name_map (slice_set groups id b) x m0 id b e0 c0.stands in
      let no_children : is_empty (group_of m0 id).children ≡ true =
      ap is_empty (sym (children_same h0.is)) ∙ ap is_empty left.children ∙ none in
      let m = taken_back profile (at_end profile) id m0 in
      let c1 = then_steps a b c v x y step (taken_back profile (at_end profile)) steps last t groups id l e s in
      let e1 = get-set_same groups id a c e in
      let now = left_last a b c body same_last left in
      let h = there t groups v l id a e s in
      let h1 = there c1.name_map (slice_set groups id c) y m id c e1 c1.stands in
      let before = (h.is.faults going).errors in
      let after = h1.is.faults now.ended in
      let carried = errors_on t c1.name_map l.parts m.parts c1.goes_on c1.extends.gone a.failed (group_of l id).errors h.is.failed before in
      let same : (group_of l id).errors ≡ (group_of m id).errors =
      some_each (group_of l id).errors (group_of m id).errors
      (sym carried ∙ ap (map (failure_of m.parts)) (sym now.failed) ∙ after.errors) in
      let errors : failures (parts v) a.failed ≡ (group_of m id).errors =
      failures_seen t v l.parts a.failed s.keeps h.is.failed
      ∙ failures_are (failure_of l.parts) a.failed (group_of l id).errors before ∙ same in
      let body_is : listed body ≡ body_failure (group_of m id).body = ap listed (sym now.body) ∙ after.body in
      let fault_is : fault ≡ fault_of ((group_of m id).errors ++ body_failure (group_of m id).body) =
      is_fault ∙ ap (λ es. fault_of (es ++ listed body)) errors ∙ ap (λ es. fault_of ((group_of m id).errors ++ es)) body_is in
      let ends = exit_ends c1.name_map (slice_set groups id c) y id m c fault e1 c1.stands now.ended now.exiting now.exit_future fault_is in
      let d : Held = record c { ended = true; body = None; kept = None } in
      let exited = end_exit (group_of m id).kept (group_of m id).errors id m in
      let is : whole id l ≡ exited =
      is_whole id l (ruled ∙ by_profile) ∙ ended_as id m0 (group_of m0 id).children no_children ∙ ended_by profile id m0 (rules id l (ruled ∙ by_profile)) in
      subst (λ (z : Exited). Came t l (slice_set groups id d) y z.loop × (exit_of (answer_of (next.Ends fault) c) ≡ z.answer)) (sym is) (
        record {
          name_map = c1.name_map;
          stands = subst (λ gs. GroupsStand c1.name_map gs y exited.loop) (set-set groups id c d) ends.0;
          extends = subst (λ q. Extends l.parts t q c1.name_map) (sym ends.1.0) c1.extends;
          goes_on = subst (λ q. PartsGoOn l.parts q) (sym ends.1.0) c1.goes_on;
        },
        ends.1.1,
      )

-- ---- what the calls answer
pub begun_same : (a b c d : Held) (body kept : Option Exc) → b ≡ record a { exiting = true; body = body; kept = kept }
    → c ≡ record b { kept = c.kept } → d ≡ record c { aborting = d.aborting }
    → d ≡ record a { exiting = true; aborting = d.aborting; body = body; kept = d.kept }
begun_same a b c d body kept x y z =
    z ∙ ap (λ (h : Held). record h { aborting = d.aborting }) y
    ∙ ap (λ (h : Held). record h { kept = c.kept; aborting = d.aborting }) x
    ∙ ap (λ (k : Option Exc). record a { exiting = true; aborting = d.aborting; body = body; kept = k }) (sym (ap (λ (h : Held). h.kept) z))

-- an exit that goes on
pub is_going : (exiting ended : Bool) → (exiting && not ended) ≡ true → (exiting ≡ true) × (ended ≡ false)
is_going true false e = (refl, refl)
is_going true true e = absurd (false≢true e)
is_going false ended e = absurd (false≢true e)

module _ (a b c : Held) (body : Option Exc) (v w x y : View) (profile : Profile) (step : ℕ → Loop → Loop) (whole : ℕ → Loop → Exited)
    (by_profile : profile_named v.profile ≡ profile) (is_whole : (id : ℕ) (l : Loop) → l.profile ≡ profile → whole id l ≡ wait_or_end id (step id l))
    (rules : (id : ℕ) (l : Loop) → l.profile ≡ profile → (step id l).profile ≡ profile)
    (passes : (id : ℕ) (l : Loop) → WaitsMade l.parts → Each (IsMade l.parts) (group_of l id).children
    → slice_get l.groups id ≡ Some (group_of l id) → Passes (step id) l)
    (steps : GroupSteps a w b x step) (same_last : c ≡ record b { kept = c.kept }) where
  exits_by : (n : ExitStep) → IsNext a body v n w → GroupSteps b x c y (last_step profile n) → LeftByExit a b body → a.ended ≡ false
      → Exits a v (gone_on n c) y whole (answer_of n c)
  exits_by (next.Waits future) is last left going =
      exit_goes_on_waiting a c body v w y profile step whole by_profile is_whole (left_last a b c body same_last left) going future is.0 is.1.0 is.1.1.0
      is.1.1.1 passes (then_steps a b c w x y step (λ id l. l) steps last)
  exits_by (next.Ends fault) is last left going =
      exit_goes_on_ending a b body v w x profile step whole by_profile is_whole left going fault c y is.0 is.1.0 same_last rules
      (subst (λ z. GroupSteps a z b x step) is.1.1 steps) last

  -- what is left of the group is told by how the machine's stands
  pub exits_on : (n : ExitStep) → IsNext a body v n w → GroupSteps b x c y (last_step profile n)
      → ((t : NameMap) (p : Parts) (group : Group) → KeepsGroup t p a group → LeftByExit a b body × (a.ended ≡ false))
      → Exits a v (gone_on n c) y whole (answer_of n c)
  exits_on n is last left t groups id l e s =
      let h = left t l.parts (group_of l id) (there t groups v l id a e s).is in
      exits_by n is last h.0 h.1 t groups id l e s

-- ---- the profile stays
abort_ruled : (raised : Option Exc) (id : ℕ) (l : Loop) → (abort_if_raised raised id l).profile ≡ l.profile
abort_ruled raised id l = at (is_some raised && not (group_of l id).aborting)
  where
    at : (b : Bool) → (let m : Loop = if b then abort id l else l in m).profile ≡ l.profile
    at true = refl
    at false = refl

taken_ruled : (profile : Profile) (now : Bool) (id : ℕ) (l : Loop) → (taken_back profile now id l).profile ≡ profile
taken_ruled profile now id l = at (now && (group_of l id).requested)
  where
    dropped : (b : Bool) (m : Loop) (it : Group) → (let n : Loop = if b then set_group id it m else m in n).profile ≡ m.profile
    dropped true m it = refl
    dropped false m it = refl

    at : (b : Bool) → (take_back_where b id (ruled profile l)).profile ≡ profile
    at true = dropped _ _ _
    at false = refl

pub begun_ruled : (profile : Profile) (raised : Option Exc) (id : ℕ) (l : Loop) → (begun profile raised id l).profile ≡ profile
begun_ruled profile raised id l =
    abort_ruled raised id (taken_back profile (at_begin profile) id (begin_exit raised id l))
    ∙ taken_ruled profile (at_begin profile) id (begin_exit raised id l)

pub heard_ruled : (input : Input) (id : ℕ) (l : Loop) → (heard input id l).profile ≡ l.profile
heard_ruled (Send value) id l = refl
heard_ruled (Throw fault) id l = at (group_of (set_group id (record (group_of l id) { exit_future = None }) l) id).aborting
  where
    at : (b : Bool) → (keep_and_abort_unless b fault id (set_group id (record (group_of l id) { exit_future = None }) l)).profile ≡ l.profile
    at true = refl
    at false = refl

-- the exit of a loop that runs by a profile
pub begun_whole : (raised : Option Exc) (profile : Profile) (id : ℕ) (l : Loop) → l.profile ≡ profile
    → exit_begin raised id l ≡ wait_or_end id (begun profile raised id l)
begun_whole raised profile id l e = subst (λ (p : Profile). exit_begin raised id l ≡ wait_or_end id (begun p raised id l)) e refl

-- what is kept afterwards belongs to the parts
module _ (a b : Held) (body : Option Exc) (v w x : View) (is : Belongs v a) (moves : Moves v w) (more : Moves w x)
    (children : b.children ≡ a.children) (exit : (b.exit_future ≡ a.exit_future) ⊎ (b.exit_future ≡ None)) where
  still : Belongs x b
  still = belongs_as x a b children exit (belongs_on w x more a (belongs_on v w moves a is))

  pub exit_belongs : (n : ExitStep) → IsNext a body v n w → Belongs x (gone_on n b)
  exit_belongs (next.Ends fault) next = record { children = still.children; exit = still.exit }
  exit_belongs (next.Waits future) next = record {
    children = still.children;
    exit = λ on e.
        let same : future ≡ on = cc in
        subst (λ f. IsOwn x f) same (own_on w x more future made);
  }
    where
      fresh : Future
      fresh = record { kind = Plain; outcome = None; callbacks = [] }

      futures : w.futures ≡ v.futures ++ fresh ∷ []
      futures = ap (λ (y : View). y.futures) next.1.1.0

      longer : length w.futures ≡ length v.futures + 1
      longer = ap length futures ∙ length-append v.futures (fresh ∷ [])

      number : future ≡ length v.futures
      number = next.1.0

      made : IsOwn w future
      made = (
        omega (arith, number, longer),
        ap owner_at (ap (λ fs. slice_get fs future) futures ∙ ap (slice_get (v.futures ++ fresh ∷ [])) number ∙ get-push_last v.futures fresh),
      )
