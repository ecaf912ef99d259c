-- The steps of an exit, before it waits or ends.
use Rattle.std.proofs.Common.{◌≡◌, ℕ, ◌<◌, Bool, true, false, not, ◌&&◌, List, [], Option, Some, None, slice_get, slice_set, refl, ap, sym, subst, ◌∙◌, arith}
use Rattle.std.specs.Prelude.{◌==◌, ◌-◌, is_some, if◌then◌else◌}
use Rattle.std.specs.Option.{option_map_or}
use Rattle.std.proofs.lemmas.Bool.{eq-eqb, ne_eqb}
use Rattle.model_value.specs.declared.input.Input.TheVariants.{Send, Throw}
use Rattle.model_value.specs.Input.{Input}
use Rattle.model_value.specs.Value.{Exc}
use Rattle.model_loop.proofs.GroupCases.{take_back_where, keep_and_abort_unless}
use Rattle.model_loop.specs.Groups.{group_of, set_group, only_cancelled, abort, take_back, begin_exit, abort_if_raised, hear}
use Rattle.model_loop.specs.Ledger.{ByGroup, uncancel_by}
use Rattle.model_loop.specs.Loop.{Loop, book}
use Rattle.model_loop.specs.Parts.{Task, Parts, Profile}
use Rattle.model_loop.specs.Tasks.{cancelling, must_still_cancel, uncancel}
use Rattle.aio_task.specs.View.{View, parts}
use Rattle.aio_task.specs.Keeps.{NameMap, Keeps, Kept}
use Rattle.aio_group.specs.Exits.{heard, ruled, taken_back}
use Rattle.aio_group.specs.Held.{Held, failing}
use Rattle.aio_group.specs.Stands.{GroupSteps}
use Rattle.aio_group.proofs.Flags.{parent_same, aborting_same, requested_same, keeps_this, wakes_up, begins}
use Rattle.aio_group.proofs.Going.{uncancel_on}
use Rattle.aio_group.proofs.Laws.{kept_uncancel}
use Rattle.aio_group.proofs.Standing.{There, no_step, then_steps, as_step, set_steps, parts_steps}

-- an input that a group doesn't keep
abbrev pub IsQuiet : Held → Input → Type 0
IsQuiet held (Send value) = Unit {0}
IsQuiet held (Throw fault) = held.aborting ≡ true

-- a step on a condition
pub raised_steps : (a b : Held) (v w : View) (raised : Option Exc) → (is_some raised && not a.aborting) ≡ true → GroupSteps a v b w abort
    → GroupSteps a v b w (abort_if_raised raised)
raised_steps a b v w raised e step = as_step a b v w abort (abort_if_raised raised) step (λ t id l h k.
    let c : (is_some raised && not (group_of l id).aborting) ≡ true = rw (← aborting_same h.is) e in
    (rw c refl, rw c refl))

pub raised_stays : (a : Held) (v : View) (raised : Option Exc) → (is_some raised && not a.aborting) ≡ false
    → GroupSteps a v a v (abort_if_raised raised)
raised_stays a v raised e = as_step a a v v (λ id l. l) (abort_if_raised raised) (no_step a v) (λ t id l h k.
    let c : (is_some raised && not (group_of l id).aborting) ≡ false = rw (← aborting_same h.is) e in
    (rw c refl, rw c refl))

pub begin_steps : (a : Held) (v : View) (raised : Option Exc)
    → GroupSteps a v (record a { exiting = true; body = failing raised; kept = only_cancelled raised }) v (begin_exit raised)
begin_steps a v raised =
    set_steps a (record a { exiting = true; body = failing raised; kept = only_cancelled raised }) v (begin_exit raised)
    (λ p group. record group { exiting = true; body = raised; kept = only_cancelled raised }) (λ id l. refl) (λ id l. refl)
    (λ t p group k is. begins is raised)

-- whether it is time for it, and there is a request
is_due : (now : Bool) (a b : Bool) (due : Bool) → a ≡ b → (now && a) ≡ due → (now && b) ≡ due
is_due now a b due same e = ap (λ r. now && r) (sym same) ∙ e

pub take_back_stays : (profile : Profile) (now : Bool) (a : Held) (v : View) → (now && a.requested) ≡ false
    → GroupSteps a v a v (taken_back profile now)
take_back_stays profile now a v e = as_step a a v v (λ id l. l) (taken_back profile now) (no_step a v) (λ t id l h k.
    let c : (now && (group_of l id).requested) ≡ false = is_due now a.requested (group_of l id).requested false (requested_same h.is) e in
    let same : take_back now id (ruled profile l) ≡ ruled profile l = ap (λ b. take_back_where b id (ruled profile l)) c in
    (ap (λ (m : Loop). m.parts) (sym same), ap (λ (m : Loop). m.groups) (sym same)))

uncancel-tasks : (profile : Profile) (task : ℕ) (p q : Parts) → p.tasks ≡ q.tasks → (uncancel profile task p).tasks ≡ (uncancel profile task q).tasks
uncancel-tasks profile task p q e = at (slice_get p.tasks task) (slice_get q.tasks task) (ap (λ ts. slice_get ts task) e)
  where
    change : Task → Task
    change t = record t { cancels = t.cancels - 1; must_cancel = must_still_cancel profile t }

    at : (o r : Option Task) → o ≡ r
        → (option_map_or (λ (t : Task). record p { tasks = slice_set p.tasks task (change t) }) o p).tasks
        ≡ (option_map_or (λ (t : Task). record q { tasks = slice_set q.tasks task (change t) }) r q).tasks
    at None None d = e
    at None (Some t) d = absurd (cc)
    at (Some t) None d = absurd (cc)
    at (Some t) (Some u) d = let same : t ≡ u = cc in rw (same, e) refl

module _ (profile : Profile) (now : Bool) (a : Held) (v w : View) (due : (now && a.requested) ≡ true)
    (e : parts w ≡ uncancel profile a.parent (parts v)) (frame : w ≡ record v { tasks = w.tasks }) where
  abbrev took : ℕ → Loop → Loop
  took id l = book (uncancel_by profile (ByGroup id) (group_of l id).parent) (ruled profile l)

  abbrev dropped_if : Bool → ℕ → Loop → Loop
  dropped_if b id l = if b then set_group id (record (group_of l id) { kept = None }) (took id l) else took id l

  taken_so : (t : NameMap) (id : ℕ) (l : Loop) → There t a id l
      → taken_back profile now id l ≡ dropped_if (cancelling (took id l).parts (group_of l id).parent == 0) id l
  taken_so t id l h =
      ap (λ b. take_back_where b id (ruled profile l)) (is_due now a.requested (group_of l id).requested true (requested_same h.is) due)

  took_steps : GroupSteps a v a w took
  took_steps = parts_steps a v w took (λ t id l h k. (
    subst (λ (i : ℕ). Kept t l.parts w (uncancel profile i l.parts)) (parent_same h.is)
        (kept_uncancel t v w l.parts profile a.parent k (record {
          parts = e;
          queue = ([], ap (λ (x : View). x.queue) frame);
          time = ap (λ (x : View). x.time) frame;
          schedule = ap (λ (x : View). x.schedule) frame;
        })),
    (uncancel_on profile (group_of l id).parent l.parts, refl),
  ))

  -- the count in code is the machine's
  left : (t : NameMap) (id : ℕ) (l : Loop) → There t a id l → Keeps t v l.parts
      → cancelling (parts w) a.parent ≡ cancelling (took id l).parts (group_of l id).parent
  left t id l h k =
      let tasks : (uncancel profile a.parent (parts v)).tasks ≡ (uncancel profile a.parent l.parts).tasks =
      uncancel-tasks profile a.parent (parts v) l.parts k.tasks in
      ap (λ (p : Parts). cancelling p a.parent) e
      ∙ ap (λ (ts : List Task). option_map_or (λ (t : Task). t.cancels) (slice_get ts a.parent) 0) tasks
      ∙ ap (λ (i : ℕ). cancelling (uncancel profile i l.parts) i) (parent_same h.is)

  pub take_back_steps : (0 < cancelling (parts w) a.parent) → GroupSteps a v a w (taken_back profile now)
  take_back_steps some = as_step a a v w took (taken_back profile now) took_steps (λ t id l h k.
      let n = left t id l h k in
      let d : (cancelling (took id l).parts (group_of l id).parent == 0) ≡ false =
      ne_eqb (cancelling (took id l).parts (group_of l id).parent) 0 (λ z. absurd (omega (arith, some, n, z))) in
      let e = taken_so t id l h ∙ ap (λ b. dropped_if b id l) d in
      (ap (λ (m : Loop). m.parts) (sym e), ap (λ (m : Loop). m.groups) (sym e)))

  pub take_back_drops : cancelling (parts w) a.parent ≡ 0 → GroupSteps a v (record a { kept = None }) w (taken_back profile now)
  take_back_drops none =
      let b : Held = record a { kept = None } in
      as_step a b v w (λ id l. drops id (took id l)) (taken_back profile now)
      (then_steps a a b v w w took drops took_steps
      (set_steps a b w drops (λ p group. record group { kept = None }) (λ id l. refl) (λ id l. refl) (λ t p group k is. keeps_this is None)))
      (λ t id l h k.
      let d : (cancelling (took id l).parts (group_of l id).parent == 0) ≡ true =
      eq-eqb (cancelling (took id l).parts (group_of l id).parent) 0 (sym (left t id l h k) ∙ none) in
      let e = taken_so t id l h ∙ ap (λ b. dropped_if b id l) d in
      (ap (λ (m : Loop). m.parts) (sym e), ap (λ (m : Loop). m.groups) (sym e)))
    where
      drops : ℕ → Loop → Loop
      drops id l = set_group id (record (group_of l id) { kept = None }) l

-- ---- the exit is woken
abbrev wakes : ℕ → Loop → Loop
wakes id l = set_group id (record (group_of l id) { exit_future = None }) l

wake_up_steps : (a : Held) (v : View) → GroupSteps a v (record a { exit_future = None }) v wakes
wake_up_steps a v =
    set_steps a (record a { exit_future = None }) v wakes (λ p group. record group { exit_future = None }) (λ id l. refl) (λ id l. refl)
    (λ t p group k is. wakes_up is)

pub heard_stays : (a : Held) (v : View) (input : Input) → IsQuiet a input → GroupSteps a v (record a { exit_future = None }) v (heard input)
heard_stays a v input quiet =
    let b : Held = record a { exit_future = None } in
    then_steps a b b v v v wakes (hear input) (wake_up_steps a v)
    (as_step b b v v (λ id l. l) (hear input) (no_step b v) (λ t id l h k. go input quiet l id h))
  where
    go : {t : NameMap} (input : Input) → IsQuiet a input → (l : Loop) (id : ℕ) → There t (record a { exit_future = None }) id l
        → (l.parts ≡ (hear input id l).parts) × (l.groups ≡ (hear input id l).groups)
    go (Send value) q l id h = (refl, refl)
    go (Throw fault) q l id h =
        let c : (group_of l id).aborting ≡ true = sym (aborting_same h.is) ∙ q in
        (rw c refl, rw c refl)

pub heard_steps : (a : Held) (v w : View) (fault : Exc) → a.aborting ≡ false
    → GroupSteps (record a { exit_future = None; kept = Some fault }) v (record a { exit_future = None; kept = Some fault; aborting = true }) w abort
    → GroupSteps a v (record a { exit_future = None; kept = Some fault; aborting = true }) w (heard (Throw fault))
heard_steps a v w fault e step =
    let b : Held = record a { exit_future = None } in
    let c : Held = record a { exit_future = None; kept = Some fault } in
    let d : Held = record a { exit_future = None; kept = Some fault; aborting = true } in
    then_steps a b d v v w wakes (hear (Throw fault)) (wake_up_steps a v)
    (as_step b d v w (λ id l. abort id (keep id l)) (hear (Throw fault))
    (then_steps b c d v v w keep abort
    (set_steps b c v keep (λ p group. record group { kept = Some fault }) (λ id l. refl) (λ id l. refl) (λ t p group k is. keeps_this is (Some fault)))
    step)
    (λ t id l h k.
    let f : (group_of l id).aborting ≡ false = sym (aborting_same h.is) ∙ e in
    let g = ap (λ b. keep_and_abort_unless b fault id l) f in
    (ap (λ (m : Loop). m.parts) (sym g), ap (λ (m : Loop). m.groups) (sym g))))
  where
    keep : ℕ → Loop → Loop
    keep id l = set_group id (record (group_of l id) { kept = Some fault }) l
