-- A handle of what is added is called soon, later, or once a future is done: the loop stays sound.
use Rattle.std.proofs.Common.{◌≡◌, ℕ, ◌==◌, Bool, true, false, cond, ◌&&◌, List, Option, refl, ap, arith}
use Rattle.std.proofs.lemmas.Bool.{ne_eqb}
use Rattle.std.proofs.lemmas.List.Sums.{sum_by_push}
use Rattle.model_value.specs.declared.action.Action.TheVariants as action
use Rattle.model_loop.specs.Deadlines.{fires_any, fires_as, others_as}
use Rattle.model_loop.specs.Entries.{ends_sleep_on, untimed}
use Rattle.model_loop.specs.Futures.{register}
use Rattle.model_loop.specs.Groups.{group_of}
use Rattle.model_loop.specs.Handles.{later, soon}
use Rattle.model_loop.specs.Loop.{Loop, in_parts}
use Rattle.model_loop.specs.Parts.{Parts, Timer}
use Rattle.model_loop.specs.Sound.{IsSound}
use Rattle.law_changes.proofs.Numbering.{later_numbers}
use Rattle.law_steps.proofs.Looks.{handles_look_same}
use Rattle.law_groups.specs.Tags.{IsQuiet}
use Rattle.law_groups.proofs.Entries.{entries-later}
use Rattle.law_groups.proofs.Holding.{looks_holds}
use Rattle.law_sound.proofs.Carrying.{looks_carries}
use Rattle.law_sound.proofs.Registering.{register_step_sound, soon_step_sound}
use Rattle.law_sound.proofs.Steps.{holds_of, parts_sound}

-- ---- called soon
pub soon_sound : (running : Option ℕ) (told : ℕ → List ℕ) (key : ℕ) (l : Loop) → IsSound running told l
    → IsSound running told (in_parts (soon (action.Extra key)) l)
soon_sound running told key l s = soon_step_sound (action.Extra key) refl refl running told l s

-- ---- called later
later_quiet : (when key : ℕ) (p : Parts) → IsQuiet p (later when (action.Extra key) p)
later_quiet when key p = record {
  tags = record {
    next = omega arith;
    any = λ id. let a = entries-later (fires_any id) when (action.Extra key) p in omega (arith, a);
    as_tag = λ id tag.
        let a = entries-later (fires_as id tag) when (action.Extra key) p in
        let z = off (p.next_tag == tag) in
        omega (arith, a, z);
    others = λ id tag h.
        let a = entries-later (others_as id tag) when (action.Extra key) p in
        let z : ◌≡◌ {A = ℕ} (cond ((p.next_tag == tag) && true) 1 0) 0 =
        ap (λ b. cond (b && true) 1 0) (ne_eqb p.next_tag tag (λ e. absurd (omega (arith, h, e)))) in
        omega (arith, a, z);
  };
  times = record {
    timers =
        let a = sum_by_push (λ (timer : Timer). cond (untimed timer.tag timer.action) 1 0) p.timers
        (record { when = when; tag = p.next_tag; action = action.Extra key }) in
        omega (arith, a);
    sleeps = λ id. let a = entries-later (ends_sleep_on id) when (action.Extra key) p in omega (arith, a);
  };
}
  where
    off : (b : Bool) → ◌≡◌ {A = ℕ} (cond (b && false) 1 0) 0
    off true = refl
    off false = refl

pub later_sound : (running : Option ℕ) (told : ℕ → List ℕ) (when key : ℕ) (l : Loop) → IsSound running told l
    → IsSound running told (in_parts (later when (action.Extra key)) l)
later_sound running told when key l s =
    let looks = handles_look_same l.parts (later when (action.Extra key) l.parts) refl refl (λ test follows. refl) in
    parts_sound running running told l (later when (action.Extra key) l.parts) s
    (looks_carries l.parts (later when (action.Extra key) l.parts) looks (later_numbers when (action.Extra key) l.parts)
    (later_quiet when key l.parts))
    (looks_holds running running told told (group_of l) l.parts (later when (action.Extra key) l.parts) looks (λ t m. m)
    (holds_of running told l s)) (λ t. refl)

-- ---- registered
pub register_sound : (running : Option ℕ) (told : ℕ → List ℕ) (future key : ℕ) (l : Loop) → IsSound running told l
    → IsSound running told (in_parts (register future (action.Extra key)) l)
register_sound running told future key l s = register_step_sound (action.Extra key) refl refl running told refl future l s
