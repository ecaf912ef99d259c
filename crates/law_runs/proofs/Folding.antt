-- What relates states and goes on, and holds of each piece of a turn from a sound state, holds of the turn.
use Rattle.std.proofs.Common.{◌≡◌, ℕ, zero, suc, refl, Bool, true, false, List, [], ◌∷◌, length, nat_lt}
use Rattle.model_says.specs.Says.{step_limit}
use Rattle.model_wire.specs.declared.event.Event.TheVariants as event
use Rattle.model_wire.specs.Call.{Answer, Call}
use Rattle.model_wire.specs.Fits.{fits}
use Rattle.model_wire.specs.Journal.{Entry, Answered, Refused}
use Rattle.model_loop.specs.Parts.{Handle}
use Rattle.model_machine.specs.Extra.{Extra}
use Rattle.model_machine.specs.Sound.{IsStateSound}
use Rattle.model_machine.specs.State.{State, noted, unbooked_in}
use Rattle.model_machine.specs.Turn.{call_of, is_stalled, next_below, run_below, run_first, run_if, run_pending, turn, turn_over, turn_unless, turned_by}
use Rattle.model_machine.specs.Turn.{woken_by}
use Rattle.model_machine.specs.Went.{Went, Goes, Stops, answered_by, fitted, state_of, went_on}
use Rattle.law_replies.specs.Added.{KeepsSound}
use Rattle.law_replies.specs.InStep.{LeavesStateSound}
use Rattle.law_runs.proofs.Callbacks.{callback_in}
use Rattle.law_runs.proofs.Turning.{noted_in, pending_in, woken_in}

-- once the outside was asked and answered
abbrev pub answered_in : {S : Type 0} → Call → Answer → List Entry → State S → State S
answered_in call answer entries s = noted (event.Got answer) (record (noted (event.Called call) s) { answers = entries })

pub record IsThroughTurns {S : Type 0} (added : Extra S) (R : State S → State S → Type 0) : Type 0 where
  pub same : (s : State S) → R s s
  pub next : (s t u : State S) → R s t → R t u → R s u
  pub asked : (call : Call) (s : State S) → IsStateSound added s → R s (noted (event.Called call) s)
  pub got : (call : Call) (answer : Answer) (entries : List Entry) (s : State S) → IsStateSound added s → R s (answered_in call answer entries s)
  pub woken : (answer : Answer) (s : State S) → IsStateSound added s → R s (unbooked_in (woken_by answer) s)
  pub first : (s : State S) (handle : Handle) (rest : List Handle) → s.loop.parts.pending ≡ handle ∷ rest → IsStateSound added s
      → R s (state_of (run_first step_limit added handle rest s))
  pub over : (done_before : Bool) (s : State S) → IsStateSound added s → R s (state_of (turn_over done_before s))

module _ {S : Type 0} (added : Extra S) (keeps : KeepsSound added) (R : State S → State S → Type 0) (it : IsThroughTurns added R) where
  went : (go_on : State S → Went S) → ((t : State S) → IsStateSound added t → R t (state_of (go_on t))) → (s : State S) (w : Went S)
      → LeavesStateSound added w → R s (state_of w) → R s (state_of (went_on go_on w))
  went go_on each s (Goes now) sound a = it.next s now (state_of (go_on now)) a (each now sound)
  went go_on each s (Stops end last) sound a = a

  next_through : (bar : ℕ) (go_on : State S → Went S) → ((t : State S) → IsStateSound added t → R t (state_of (go_on t))) → (handles : List Handle)
      (s : State S) → s.loop.parts.pending ≡ handles → IsStateSound added s → R s (state_of (next_below step_limit added bar handles go_on s))
  next_through bar go_on each [] s e sound = it.same s
  next_through bar go_on each (handle ∷ rest) s e sound = at (nat_lt handle.stamp bar)
    where
      at : (b : Bool) → R s (state_of (run_if step_limit added b handle rest go_on s))
      at false = it.same s
      at true =
          went go_on each s (run_first step_limit added handle rest s) (callback_in added keeps s handle rest e sound)
          (it.first s handle rest e sound)

  below_through : (bar count : ℕ) (s : State S) → IsStateSound added s → R s (state_of (run_below step_limit added bar count s))
  unfolding run_below
  below_through bar zero s sound = it.same s
  below_through bar (suc count) s sound =
      next_through bar (run_below step_limit added bar count) (λ t h. below_through bar count t h) s.loop.parts.pending s refl sound

  turned_through : (answer : Answer) (s : State S) → IsStateSound added s → R s (state_of (turned_by step_limit added answer s))
  turned_through answer s sound =
      let woken = unbooked_in (woken_by answer) s in
      let h = woken_in added s answer sound in
      went (turn_over s.main_done) (λ t k. it.over s.main_done t k) s (run_pending step_limit added woken) (pending_in added keeps woken h)
      (it.next s woken (state_of (run_pending step_limit added woken)) (it.woken answer s sound)
      (below_through woken.loop.parts.next_stamp (length woken.loop.parts.pending) woken h))

  pub turn_through : (s : State S) → IsStateSound added s → R s (state_of (turn step_limit added s))
  unfolding turn
  turn_through s sound = unless (is_stalled added s)
    where
      fit : (b : Bool) (entries : List Entry) (answer : Answer)
          → R s (state_of (fitted b (call_of added s) answer (turned_by step_limit added) (answered_in (call_of added s) answer entries s)))
      fit true entries answer =
          it.next s (answered_in (call_of added s) answer entries s) _ (it.got (call_of added s) answer entries s sound)
          (turned_through answer _ (noted_in added s entries (call_of added s) answer sound))
      fit false entries answer = it.got (call_of added s) answer entries s sound

      by : (entries : List Entry)
          → R s (state_of (answered_by entries (call_of added s) (turned_by step_limit added) (noted (event.Called (call_of added s)) s)))
      by [] = it.asked (call_of added s) s sound
      by (Refused line cause ∷ entries) = it.asked (call_of added s) s sound
      by (Answered answer ∷ entries) = fit (fits (call_of added s) answer) entries answer

      unless : (b : Bool) → R s (state_of (turn_unless step_limit added b s))
      unless true = it.same s
      unless false = by s.answers
