-- What a callback leaves: what is done stays done, and each event that comes is of the task that runs.
use Rattle.std.proofs.Common.{◌≡◌, ℕ, false, List, [], ◌∷◌, ◌++◌, Option}
use Rattle.std.proofs.Common.{refl, ap, sym, ◌∙◌, append_assoc, append-nil, ◌||◌}
use Rattle.std.specs.List.{list_any}
use Rattle.std.proofs.lemmas.List.Folds.{list_any-append}
use Rattle.model_value.specs.Action.{Action}
use Rattle.model_value.specs.declared.action.Action.TheVariants as action
use Rattle.model_wire.specs.declared.event.Event.TheVariants as event
use Rattle.model_wire.specs.Event.{Event}
use Rattle.model_loop.specs.Ways.{is_running, steps}
use Rattle.model_loop.specs.Parts.{Parts}
use Rattle.model_machine.specs.Extra.{Extra}
use Rattle.model_machine.specs.State.{ResumePoint, Asked, Sleeping, Leaving, Serving, Connecting, Yielding, Reading, ReadingAll, State}
use Rattle.model_machine.specs.Step.{given_up}
use Rattle.law_changes.proofs.Parts.{parts_of}
use Rattle.law_reach.specs.Changes.{StateChange, OfLoop, Says, MakesCoroutine, SetsResumePoint, Resumes, NamesFuture, EndsMain, ChangesExtra, ChangesStreams}
use Rattle.law_reach.specs.Changes.{Runs, Hears, Calls, MayInCallback, made, runner_of}
use Rattle.law_reach.specs.Reaches.{InCallback}
use Rattle.law_changes.proofs.Folds.{fold, one}
use Rattle.law_promises.specs.Done.{is_of}
use Rattle.law_promises.proofs.Later.{IsLater, later_then, later_same, later_refl, later_row}

-- `t` comes after `s` by what this task does, or nobody
pub record IsWithin {S : Type 0} (runner : Option ℕ) (s t : State S) : Type 0 where
  pub later : IsLater s.loop.parts t.loop.parts
  pub more : List Event
  pub events : t.events ≡ s.events ++ more
  pub others : (task : ℕ) → is_running runner task ≡ false → list_any (is_of task) more ≡ false

pub quiet : {S : Type 0} (r : Option ℕ) (s t : State S) → IsLater s.loop.parts t.loop.parts → t.events ≡ s.events → IsWithin r s t
quiet r s t later e = record { later = later; more = []; events = e ∙ sym (append-nil s.events); others = λ task h. refl }

same : {S : Type 0} (r : Option ℕ) (s : State S) → IsWithin r s s
same r s = quiet r s s (later_refl s.loop.parts) refl

pub within_then : {S : Type 0} (r : Option ℕ) (s t u : State S) → IsWithin r s t → IsWithin r t u → IsWithin r s u
within_then r s t u a b = record {
  later = later_then s.loop.parts t.loop.parts u.loop.parts a.later b.later;
  more = a.more ++ b.more;
  events = b.events ∙ ap (λ (es : List Event). es ++ b.more) a.events ∙ append_assoc s.events a.more b.more;
  others = λ task h. list_any-append (is_of task) a.more b.more ∙ ap (λ x. x || list_any (is_of task) b.more) (a.others task h) ∙ b.others task h;
}

pub runs_as : (it : Action) (task : ℕ) → steps task it ≡ is_running (runner_of it) task
runs_as (action.Step other) task = refl
runs_as (action.StepInCycle other cycle) task = refl
runs_as (action.Wakeup other) task = refl
runs_as _ task = refl

change_within : {S : Type 0} (added : Extra S) (r : Option ℕ) (change : StateChange S) (s : State S) → MayInCallback added r change s
    → IsWithin r s (made change s)
change_within added r (OfLoop change) s may = quiet r s _ (later_row (parts_of {r = r} (one change may))) refl
change_within added r (Says task text) s may = record {
  later = later_refl s.loop.parts;
  more = event.Said task text ∷ [];
  events = refl;
  others = λ other h. ap (λ b. b || false) (ap (λ o. is_running o other) (sym may) ∙ h);
}
change_within added r (Runs it) s may = record {
  later = later_refl s.loop.parts;
  more = event.Ran it ∷ [];
  events = refl;
  others = λ other h. ap (λ b. b || false) (runs_as it other ∙ ap (λ o. is_running o other) may ∙ h);
}
change_within added r (MakesCoroutine coroutine arguments) s may = quiet r s _ (later_refl s.loop.parts) refl
change_within added r (SetsResumePoint resume_point task) s may = quiet r s _ (later_refl s.loop.parts) refl
change_within added r (Resumes fresh task input) s may = quiet r s _ (later_refl s.loop.parts) refl
change_within added r (NamesFuture future) s may = quiet r s _ (later_refl s.loop.parts) refl
change_within added r EndsMain s may = quiet r s _ (later_refl s.loop.parts) refl
change_within added r (ChangesExtra extra) s may = quiet r s _ (later_refl s.loop.parts) refl
change_within added r (ChangesStreams streams) s may = quiet r s _ (later_refl s.loop.parts) refl
change_within added r (Hears call answer left) s may = record {
  later = later_refl s.loop.parts;
  more = event.Called call ∷ event.Got answer ∷ [];
  events = append_assoc s.events (event.Called call ∷ []) (event.Got answer ∷ []);
  others = λ other h. refl;
}
change_within added r (Calls call) s may = record {
  later = later_refl s.loop.parts;
  more = event.Called call ∷ [];
  events = refl;
  others = λ other h. refl;
}

pub within_row : {S : Type 0} (added : Extra S) {r : Option ℕ} {s t : State S} → InCallback added r s t → IsWithin r s t
within_row added {r = r} row = fold (IsWithin r) (same r) (within_then r) (change_within added r) row

pub later_given_up : (resume_point : ResumePoint) (p : Parts) → IsLater p (given_up resume_point p)
later_given_up Asked p = later_refl p
later_given_up (Sleeping tag) p = later_same p _ refl refl
later_given_up (Leaving group) p = later_refl p
later_given_up (Serving key) p = later_refl p
later_given_up (Connecting conn) p = later_refl p
later_given_up (Yielding whom) p = later_refl p
later_given_up (Reading from op on) p = later_refl p
later_given_up (ReadingAll from taken on) p = later_refl p
