-- A tree of streams and children keeps the loop sound, where each of its changes may be made.
use Rattle.std.proofs.Common.{◌≡◌, ℕ, Bool, true, false, List, [], ◌∷◌, ◌++◌, Option, refl, ap}
use Rattle.model_wire.specs.declared.event.Event.TheVariants as event
use Rattle.model_wire.specs.Call.{Answer, Call}
use Rattle.model_wire.specs.Event.{Event}
use Rattle.model_wire.specs.Fits.{fits}
use Rattle.model_wire.specs.Journal.{Entry, Answered, Refused}
use Rattle.model_wire.specs.Trace.{End}
use Rattle.model_loop.specs.Loop.{Loop, in_parts}
use Rattle.model_loop.specs.Sound.{IsSound}
use Rattle.model_stream.specs.Doing as doing
use Rattle.model_stream.specs.Doing.{Doing, Ends, Changes, Asks}
use Rattle.model_machine.specs.Does.{changed, does}
use Rattle.model_machine.specs.State.{State, noted, unbooked_in}
use Rattle.model_machine.specs.Told.{told_by, told_in}
use Rattle.model_machine.specs.Went.{answered_so, ask_so, fitted_so}
use Rattle.law_sound.proofs.Registering.{soon_step_sound}
use Rattle.law_sound.proofs.Steps.{plain_step_sound, settle_step_sound}
use Rattle.law_turns.specs.Trees.{FitsChange, FitsTree}
use Rattle.law_turns.proofs.Turning.{as_told}

-- what tells no group adds nothing to what groups were told
pub told_in-none : (events more : List Event) → ((group : ℕ) → told_in more group ≡ []) → (group : ℕ) → told_in (events ++ more) group ≡ told_in events group
told_in-none [] more none group = none group
told_in-none (event.Called call ∷ events) more none group = told_in-none events more none group
told_in-none (event.Got answer ∷ events) more none group = told_in-none events more none group
told_in-none (event.Said task text ∷ events) more none group = told_in-none events more none group
told_in-none (event.Ran it ∷ events) more none group = ap (told_by group it) (told_in-none events more none group)

change_sound : (running : Option ℕ) (told : ℕ → List ℕ) (change : doing.Change) (l : Loop) → FitsChange change l → IsSound running told l
    → IsSound running told (in_parts (changed change) l)
change_sound running told doing.MakeFuture l fit s = plain_step_sound running told l s
change_sound running told (doing.CallSoon action) l fit s = soon_step_sound action fit.0 fit.1 running told l s
change_sound running told (doing.Settle future outcome) l fit s = settle_step_sound running told future outcome l fit s

-- between two callbacks, or in a task's step
module _ {S R : Type 0} (running : Option ℕ) (Leaves : R → Type 0) (halts : End → State S → R) (halted : (how : End) (t : State S) → Leaves (halts how t)) where
  abbrev Sound : State S → Type 0
  Sound s = IsSound running (told_in s.events) s.loop

  -- after an answer
  abbrev gotten : Call → Answer → List Entry → State S → State S
  gotten call answer left s = noted (event.Got answer) (record (noted (event.Called call) s) { answers = left })

  asked_sound : (call : Call) (next : Answer → State S → R) (s : State S) → Sound s
      → ((answer : Answer) (left : List Entry) → fits call answer ≡ true → Sound (gotten call answer left s) → Leaves (next answer (gotten call answer left s)))
      → Leaves (ask_so halts call next s)
  asked_sound call next s sound each = by s.answers
    where
      heard : (answer : Answer) (left : List Entry) → Sound (gotten call answer left s)
      heard answer left =
          as_told running (told_in (s.events ++ event.Called call ∷ [])) (told_in ((s.events ++ event.Called call ∷ []) ++ event.Got answer ∷ [])) s.loop
          (told_in-none (s.events ++ event.Called call ∷ []) (event.Got answer ∷ []) (λ group. refl))
          (as_told running (told_in s.events) (told_in (s.events ++ event.Called call ∷ [])) s.loop
          (told_in-none s.events (event.Called call ∷ []) (λ group. refl)) sound)

      fit : (b : Bool) (answer : Answer) (left : List Entry) → fits call answer ≡ b → Leaves (fitted_so halts b call answer next (gotten call answer left s))
      fit true answer left e = each answer left e (heard answer left)
      fit false answer left e = halted _ _

      by : (entries : List Entry) → Leaves (answered_so halts entries call next (noted (event.Called call) s))
      by [] = halted _ _
      by (Refused line cause ∷ entries) = halted _ _
      by (Answered answer ∷ entries) = fit (fits call answer) answer entries refl

  pub done_sound : {A : Type 0} (tree : Doing A) (next : A → State S → R) (s : State S) → ((it : A) (t : State S) → Sound t → Leaves (next it t))
      → FitsTree tree s.loop → Sound s → Leaves (does halts tree next s)
  done_sound (Ends result) next s each fit sound = each result s sound
  done_sound (Changes change rest) next s each fit sound =
      done_sound rest next (unbooked_in (changed change) s) each fit.1 (change_sound running (told_in s.events) change s.loop fit.0 sound)
  done_sound (Asks call rest) next s each fit sound =
      asked_sound call (λ answer. does halts (rest answer) next) s sound (λ answer left e heard.
      done_sound (rest answer) next (gotten call answer left s) each (fit answer e) heard)
