-- The tasks that are counted of a run are those of its last state, unless a turn was cut short.
use Rattle.std.proofs.Common.{◌≡◌, ◌⊎◌, inl, inr, ℕ, zero, suc, Bool, true, false, cond, not, ◌&&◌, List, [], ◌∷◌, Option, Some, None, refl, sym, ap}
use Rattle.std.proofs.lemmas.Bool.{false≢true}
use Rattle.model_value.specs.declared.outcome.Outcome.TheVariants.{Value as Returned, Failed, Cancelled}
use Rattle.model_value.specs.Value.{Outcome}
use Rattle.model_wire.specs.declared.event.Event.TheVariants as event
use Rattle.model_wire.specs.Call.{Answer}
use Rattle.model_wire.specs.Fits.{fits}
use Rattle.model_wire.specs.Journal.{Entry, Answered, Refused}
use Rattle.model_wire.specs.Trace.{End}
use Rattle.model_machine.specs.Extra.{Extra}
use Rattle.model_machine.specs.Outcomes.{end_of, finished_as}
use Rattle.model_machine.specs.Run.{run_after, run_on}
use Rattle.model_machine.specs.State.{State, noted, unbooked_in}
use Rattle.model_machine.specs.Turn.{call_of, cancelled_if, finished_if, is_stalled, run_pending, turn, turn_over, turn_unless, turned_by, woken_by}
use Rattle.model_machine.specs.Went.{Went, Goes, Stops, answered_by, fitted, went_on}
use Rattle.model_commands.specs.Works.{is_outcome, tasks_after, tasks_in, tasks_on}
use Rattle.law_reach.specs.Reaches.{EndsIn, StopsIn}
use Rattle.law_reach.proofs.Turning.{pending_turns}
use Rattle.law_counts.specs.Lasting.{IsCut, last_after, last_on}

-- how a turn ends a run: by main's outcome, or cut short
abbrev EndsSo : {S : Type 0} → Went S → Type 0
EndsSo (Goes now) = Unit {0}
EndsSo (Stops how last) = (is_outcome how ≡ true) ⊎ IsCut how

-- or it changes nothing
abbrev EndsFrom : {S : Type 0} → State S → Went S → Type 0
EndsFrom s (Goes now) = Unit {0}
EndsFrom s (Stops how last) = ((is_outcome how ≡ true) ⊎ IsCut how) ⊎ (last ≡ s)

ends_from : {S : Type 0} (s : State S) (went : Went S) → EndsSo went → EndsFrom s went
ends_from s (Goes now) so = tt
ends_from s (Stops how last) so = inl so

outcome_ends : (outcome : Outcome) → is_outcome (end_of outcome) ≡ true
outcome_ends (Returned value) = refl
outcome_ends (Failed fault) = refl
outcome_ends Cancelled = refl

module _ {S : Type 0} (limit : ℕ) (added : Extra S) where
  over_ends : (done_before : Bool) (s : State S) → EndsSo (turn_over done_before s)
  over_ends done_before s = at (s.main_done && not done_before)
    where
      finished : (o : Option Outcome) (t : State S) → EndsSo (finished_if o t)
      finished None t = tt
      finished (Some outcome) t = inl (outcome_ends outcome)

      at : (b : Bool) → EndsSo (finished_if (finished_as (cancelled_if b s)) (cancelled_if b s))
      at b = finished (finished_as (cancelled_if b s)) (cancelled_if b s)

  cut_ends : (s : State S) (how : End) → EndsIn added s how → IsCut how
  cut_ends s how (inl runaway) = inl runaway
  cut_ends s how (inr unmet) = inr unmet.1

  turned_ends : (answer : Answer) (s : State S) → EndsSo (turned_by limit added answer s)
  turned_ends answer s =
      let t = unbooked_in (woken_by answer) s in at t (run_pending limit added t) (pending_turns limit added t).ends
    where
      at : (t : State S) (went : Went S) → StopsIn added t went → EndsSo (went_on (turn_over s.main_done) went)
      at t (Goes now) ends = over_ends s.main_done now
      at t (Stops how last) ends = inr (cut_ends t how ends)

  turn_ends : (s : State S) → EndsFrom s (turn limit added s)
  unfolding turn
  turn_ends s = unless (is_stalled added s)
    where
      fit : (b : Bool) (answer : Answer) (t : State S) → EndsFrom s (fitted b (call_of added s) answer (turned_by limit added) t)
      fit true answer t = ends_from s (turned_by limit added answer t) (turned_ends answer t)
      fit false answer t = inl (inr (inr tt))

      by : (entries : List Entry)
          → EndsFrom s (answered_by entries (call_of added s) (turned_by limit added) (noted (event.Called (call_of added s)) s))
      by [] = inl (inr (inr tt))
      by (Refused line cause ∷ entries) = inl (inr (inr tt))
      by (Answered answer ∷ entries) = fit (fits (call_of added s) answer) answer _

      unless : (b : Bool) → EndsFrom s (turn_unless limit added b s)
      unless true = inr refl
      unless false = by s.answers

  -- ---- what is counted
  abbrev Counts : (allowed left : ℕ) → State S → Type 0
  Counts allowed left s = (tasks_on limit added left s ≡ tasks_in (last_on limit added left s)) ⊎ IsCut (run_on limit added allowed left s).end

  abbrev CountsAfter : (allowed left : ℕ) → State S → Went S → Type 0
  CountsAfter allowed left s went =
      (tasks_after (tasks_on limit added left) (tasks_in s) went ≡ tasks_in (last_after (last_on limit added left) went))
      ⊎ IsCut (run_after (run_on limit added allowed left) went).end

  -- by main's outcome the tasks of the last state are counted, and else those of the state before, where it is the same
  chosen : (b : Bool) (s last : State S) → (b ≡ true) ⊎ (last ≡ s) → cond b (tasks_in last) (tasks_in s) ≡ tasks_in last
  chosen true s last why = refl
  chosen false s last (inl is) = absurd (false≢true is)
  chosen false s last (inr same) = ap (λ (t : State S). tasks_in t) (sym same)

  stops_count : (allowed left : ℕ) (s : State S) (how : End) (last : State S) → ((is_outcome how ≡ true) ⊎ IsCut how) ⊎ (last ≡ s)
      → CountsAfter allowed left s (Stops how last)
  stops_count allowed left s how last (inl (inl outcome)) = inl (chosen (is_outcome how) s last (inl outcome))
  stops_count allowed left s how last (inl (inr cut)) = inr cut
  stops_count allowed left s how last (inr same) = inl (chosen (is_outcome how) s last (inr same))

  after_counts : (allowed left : ℕ) (s : State S) (went : Went S) → EndsFrom s went → ((now : State S) → Counts allowed left now)
      → CountsAfter allowed left s went
  after_counts allowed left s (Goes now) ends each = each now
  after_counts allowed left s (Stops how last) ends each = stops_count allowed left s how last ends

  pub run_counts : (allowed left : ℕ) (s : State S) → Counts allowed left s
  unfolding run_on tasks_on last_on
  run_counts allowed zero s = inl refl
  run_counts allowed (suc left) s = after_counts allowed left s (turn limit added s) (turn_ends s) (run_counts allowed left)
