-- A handle is given up: where whatever has its tag steps no task and tells no group, tasks and groups look the same.
use Rattle.std.proofs.Common.{◌≡◌, ℕ, Bool, arith, not, refl, sym, true, ◌==◌, ◌∙◌, List, Option, ap, false, slice_get}
use Rattle.law_steps.specs.Frames.{Follows}
use Rattle.law_steps.proofs.Looks.{LooksSame, handles_look_same}
use Rattle.model_loop.specs.Deadlines.{fires, fires_any, fires_as, others_as}
use Rattle.law_groups.proofs.Entries.{entries-fewer, entries-revoke, of_tag, revoked_pending, revoked_timers}
use Rattle.model_loop.specs.Entries.{ends_sleep_on, entries, is_sleep_end, no_sleep_as, untimed, AreTimed}
use Rattle.model_loop.specs.Handles.{revoke, due}
use Rattle.model_value.specs.declared.action.Action.TheVariants.{SleepDone}
use Rattle.model_value.specs.Action.{Action}
use Rattle.law_groups.specs.Tags.{AddsNoTimes, KeepsTags}
use Rattle.std.proofs.lemmas.Bool.{and_from, and_parts, false≢true}
use Rattle.model_loop.specs.Parts.{Parts, Task}
use Rattle.std.specs.Option.{option_map_or}
use Rattle.law_steps.proofs.CancelSound.{same_sound}
use Rattle.model_loop.specs.Sound.{ArePartsSound}
use Rattle.law_groups.proofs.Due.{due-tasks, due_looks_same}

pub revoke_looks_same : (tag : ℕ) (p : Parts)
    → ((test : Action → Bool) → Follows test → entries (of_tag tag (λ other. test)) p ≡ 0) → LooksSame p (revoke tag p)
revoke_looks_same tag p none = handles_look_same p (revoke tag p) refl refl (λ test follows.
    let a = revoked_pending (λ other. test) tag p.pending in
    let b = none test follows in
    omega (arith, a, b))

pub revoke_times : (tag : ℕ) (p : Parts) → AddsNoTimes p (revoke tag p)
revoke_times tag p = record {
  timers = let a = revoked_timers untimed tag p.timers in omega (arith, a);
  sleeps = λ id. let a = entries-revoke (ends_sleep_on id) tag p in omega (arith, a);
}

-- ---- of a sleep: what else has the tag ends none
pub sleep_looks_same : (tag : ℕ) (p : Parts) → entries (no_sleep_as tag) p ≡ 0 → LooksSame p (revoke tag p)
sleep_looks_same tag p none = revoke_looks_same tag p (λ test follows.
    let a = entries-fewer (of_tag tag (λ other. test)) (no_sleep_as tag) p (λ k action h.
    let x = and_parts (k == tag) (test action) h in
    and_from (k == tag) (not (is_sleep_end action)) x.0 (harder test follows action x.1)) in
    omega (arith, a, none))
  where
    harder : (test : Action → Bool) → Follows test → (action : Action) → test action ≡ true → not (is_sleep_end action) ≡ true
    harder test follows (SleepDone task future) h = absurd (false≢true (sym (follows (SleepDone task future) refl) ∙ h))
    harder test follows _ h = refl

pub sleep_tags : (tag : ℕ) (p : Parts) → entries (no_sleep_as tag) p ≡ 0 → KeepsTags p (revoke tag p)
sleep_tags tag p none = record {
  next = omega arith;
  any = λ id.
      let a = entries-revoke (fires_any id) tag p in
      let b = fires_none id (fires_any id) (λ k action h. h) in
      omega (arith, a, b);
  as_tag = λ id other.
      let a = entries-revoke (fires_as id other) tag p in
      let b = fires_none id (fires_as id other) (λ k action h. (and_parts (k == other) (fires id action) h).1) in
      omega (arith, a, b);
  others = λ id other h. let a = entries-revoke (others_as id other) tag p in omega (arith, a);
}
  where
    awake : (id : ℕ) (action : Action) → fires id action ≡ true → not (is_sleep_end action) ≡ true
    awake id (SleepDone task future) h = absurd (false≢true h)
    awake id _ h = refl

    fires_none : (id : ℕ) (test : ℕ → Action → Bool) → ((k : ℕ) (action : Action) → test k action ≡ true → fires id action ≡ true)
        → entries (of_tag tag test) p ≡ 0
    fires_none id test harder =
        let a = entries-fewer (of_tag tag test) (no_sleep_as tag) p (λ k action h.
        let x = and_parts (k == tag) (test k action) h in
        and_from (k == tag) (not (is_sleep_end action)) x.0 (awake id action (harder k action x.1))) in
        omega (arith, a, none)

-- ---- tasks and futures stay sound
pub due_sound : (running excused : Option ℕ) (p : Parts) → AreTimed p → ArePartsSound running excused p
    → ArePartsSound running excused (due p)
due_sound running excused p timed is =
    same_sound running excused p (due p) (due_looks_same p timed)
    (λ task m. sym (ap (λ (l : List Task). option_map_or (λ (t : Task). t.must_cancel) (slice_get l task) false) (due-tasks p)) ∙ m) is

pub revoke_sound : (running excused : Option ℕ) (tag : ℕ) (p : Parts) → entries (no_sleep_as tag) p ≡ 0
    → ArePartsSound running excused p → ArePartsSound running excused (revoke tag p)
revoke_sound running excused tag p none is =
    same_sound running excused p (revoke tag p) (sleep_looks_same tag p none) (λ task m. m) is
