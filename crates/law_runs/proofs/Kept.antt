-- What a request leaves: what happened, and the tape of the task.
use Rattle.std.proofs.Common.{◌≡◌, ℕ, ◌≤◌, zero, suc, List, [], ◌∷◌, ◌++◌, length}
use Rattle.std.proofs.Common.{slice_index_or, slice_set, refl, ap, ◌∙◌, length-append, arith, Some}
use Rattle.model_value.specs.Input.{Input}
use Rattle.model_value.specs.Request.{Request}
use Rattle.model_says.specs.Tape.{Tape}
use Rattle.model_wire.specs.declared.event.Event.TheVariants as event
use Rattle.model_machine.specs.Extra.{Extra}
use Rattle.model_machine.specs.Replies.{RequestReply, decides, reply}
use Rattle.model_machine.specs.State.{ResumePoint, Generator, State, generator, stands}
use Rattle.law_reach.specs.Changes.{StateChange, OfLoop, Says, MakesCoroutine, SetsResumePoint, Resumes, NamesFuture, EndsMain, ChangesExtra, ChangesStreams}
use Rattle.law_reach.specs.Changes.{Runs, Hears, Calls, MayInAnswer, made}
use Rattle.law_reach.specs.Reaches.{InAnswer, left_by}
use Rattle.law_reach.proofs.Opened.{decides_comes, reply_comes}
use Rattle.law_changes.proofs.Folds.{fold}
use Rattle.law_runs.specs.Growth.{EventsGrow}
use Rattle.law_runs.proofs.Counts.{goes_on_same, goes_on_one, goes_on_then}

abbrev pub tape_in : List Generator → ℕ → Tape
tape_in generators task = (slice_index_or generators task (generator 0 [])).tape

abbrev pub tape_of : {S : Type 0} → ℕ → State S → Tape
tape_of task s = tape_in s.generators task

-- what is kept while a request is answered
pub record IsKeptInAnswer {S : Type 0} (task : ℕ) (s t : State S) : Type 0 where
  pub events : EventsGrow s.events t.events
  pub tape : tape_of task t ≡ tape_of task s
  pub generators : length s.generators ≤ length t.generators

-- more events, and the same generators
kept_as : {S : Type 0} (task : ℕ) (s t : State S) → EventsGrow s.events t.events → t.generators ≡ s.generators → IsKeptInAnswer task s t
kept_as task s t e g = record { events = e; tape = ap (λ gs. tape_in gs task) g; generators = rw g (omega arith) }

pub kept_then : {S : Type 0} (task : ℕ) (s t u : State S) → IsKeptInAnswer task s t → IsKeptInAnswer task t u → IsKeptInAnswer task s u
kept_then task s t u first second = record {
  events = goes_on_then s.events t.events u.events first.events second.events;
  tape = second.tape ∙ first.tape;
  generators = let a = first.generators in let b = second.generators in omega arith;
}

-- ---- generators
tape-set : (gs : List Generator) (at task : ℕ) (g : Generator) → g.tape ≡ tape_in gs at → tape_in (slice_set gs at g) task ≡ tape_in gs task
tape-set [] at task g e = refl
tape-set (h ∷ gs) zero zero g e = e
tape-set (h ∷ gs) zero (suc task) g e = refl
tape-set (h ∷ gs) (suc at) zero g e = refl
tape-set (h ∷ gs) (suc at) (suc task) g e = tape-set gs at task g e

tape-added : (gs : List Generator) (task : ℕ) (g : Generator) → g.tape ≡ [] → tape_in (gs ++ g ∷ []) task ≡ tape_in gs task
tape-added [] zero g e = e
tape-added [] (suc task) g e = refl
tape-added (h ∷ gs) zero g e = refl
tape-added (h ∷ gs) (suc task) g e = tape-added gs task g e

pub length-slice_set : (gs : List Generator) (at : ℕ) (g : Generator) → length (slice_set gs at g) ≡ length gs
length-slice_set [] at g = refl
length-slice_set (h ∷ gs) zero g = refl
length-slice_set (h ∷ gs) (suc at) g = ap suc (length-slice_set gs at g)

pub stands-kept : {S : Type 0} (resume_point : ResumePoint) (at task : ℕ) (s : State S) → IsKeptInAnswer task s (stands resume_point at s)
stands-kept resume_point at task s = record {
  events = goes_on_same s.events;
  tape = tape-set s.generators at task _ refl;
  generators = rw (length-slice_set s.generators at _) (omega arith);
}

-- ---- replies
abbrev pub reply_state : {S : Type 0} → RequestReply S → State S
reply_state it = left_by it

change-keeps : {S : Type 0} (added : Extra S) (task : ℕ) (change : StateChange S) (s : State S) → MayInAnswer added (Some task) change s
    → IsKeptInAnswer task s (made change s)
change-keeps added task (OfLoop change) s may = kept_as task s _ (goes_on_same s.events) refl
change-keeps added task (Says said text) s may = kept_as task s _ (goes_on_one s.events _) refl
change-keeps added task (MakesCoroutine coroutine arguments) s may = record {
  events = goes_on_same s.events;
  tape = tape-added s.generators task (generator coroutine arguments) refl;
  generators = rw (length-append s.generators (generator coroutine arguments ∷ [])) (omega arith);
}
change-keeps added task (SetsResumePoint resume_point at) s may = stands-kept resume_point at task s
change-keeps added task (Resumes fresh at input) s may = absurd may
change-keeps added task (NamesFuture future) s may = kept_as task s _ (goes_on_same s.events) refl
change-keeps added task EndsMain s may = absurd may
change-keeps added task (ChangesExtra extra) s may = kept_as task s _ (goes_on_same s.events) refl
change-keeps added task (ChangesStreams streams) s may = kept_as task s _ (goes_on_same s.events) refl
change-keeps added task (Runs it) s may = absurd may
change-keeps added task (Hears call answer left) s may =
    kept_as task s _ (goes_on_then s.events (s.events ++ event.Called call ∷ []) ((s.events ++ event.Called call ∷ []) ++ event.Got answer ∷ [])
    (goes_on_one s.events _) (goes_on_one (s.events ++ event.Called call ∷ []) _)) refl
change-keeps added task (Calls call) s may = kept_as task s _ (goes_on_one s.events _) refl

row-keeps : {S : Type 0} (added : Extra S) {task : ℕ} {s t : State S} → InAnswer added (Some task) s t → IsKeptInAnswer task s t
row-keeps added {task = task} row =
    fold (IsKeptInAnswer task) (λ t. kept_as task t t (goes_on_same t.events) refl) (kept_then task) (change-keeps added task) row

pub reply-keeps : {S : Type 0} (added : Extra S) (task : ℕ) (asked : Request) (s : State S)
    → IsKeptInAnswer task s (reply_state (reply added task asked s))
reply-keeps added task asked s = row-keeps added (reply_comes added task asked s).reaches

pub decides-keeps : {S : Type 0} (added : Extra S) (resume_point : ResumePoint) (task : ℕ) (input : Input) (s : State S)
    → IsKeptInAnswer task s (reply_state (decides added resume_point task input s))
decides-keeps added resume_point task input s = row-keeps added (decides_comes added task resume_point input s).reaches
