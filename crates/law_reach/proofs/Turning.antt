-- A turn is a row of changes.
use Rattle.std.proofs.Common.{◌≡◌, ℕ, zero, suc, refl, ap, ◌∙◌, arith, ◌||◌, Bool, true, false, not, ◌&&◌, List, [], ◌∷◌, Option, Some, None, length, nat_lt}
use Rattle.std.specs.List.{flat_map, list_any}
use Rattle.std.proofs.lemmas.Bool.{or_parts}
use Rattle.std.proofs.lemmas.List.Folds.{list_any-append}
use Rattle.model_value.specs.Action.{Action}
use Rattle.model_value.specs.Value.{Outcome}
use Rattle.model_wire.specs.declared.event.Event.TheVariants as event
use Rattle.model_wire.specs.Call.{Answer, Item}
use Rattle.model_wire.specs.declared.item.Item.TheVariants as item
use Rattle.model_wire.specs.declared.item.Readiness.TheVariants as ready
use Rattle.model_wire.specs.Fits.{fits}
use Rattle.model_wire.specs.Journal.{Entry, Answered, Refused}
use Rattle.model_loop.specs.Handles.{soon, soon_all}
use Rattle.model_loop.specs.Loop.{Loop, in_parts}
use Rattle.model_loop.specs.Parts.{Handle}
use Rattle.model_machine.specs.Extra.{Extra}
use Rattle.model_machine.specs.Outcomes.{finished_as}
use Rattle.model_machine.specs.Outside.{actions_of, items_of, news_of, time_of}
use Rattle.model_loop.specs.Owning.{is_main_done}
use Rattle.model_machine.specs.State.{State, noted, unbooked_in}
use Rattle.model_machine.specs.Turn.{at_time, call_of, cancelled_if, finished_if, is_stalled, next_below, run_below, run_first, run_if, run_pending}
use Rattle.model_machine.specs.Turn.{turn}
use Rattle.model_machine.specs.Turn.{turn_over, turn_unless, turned_by, woken_by}
use Rattle.model_machine.specs.Went.{Went, Goes, Stops, answered_by, fitted, state_of, went_on}
use Rattle.law_changes.specs.Changes.{OfParts, CallsSoon, FallsDue, LeavesPending, Passes}
use Rattle.law_changes.specs.Reaches.{LoopReaches, stays, goes}
use Rattle.law_changes.proofs.LoopRows.{end_row}
use Rattle.law_changes.proofs.Folds.{one, on}
use Rattle.law_reach.specs.Asked.{IsAnswered, WentAsks}
use Rattle.law_reach.specs.Changes.{Calls, Hears}
use Rattle.law_reach.specs.Reaches.{InCallback, InRun, InTurn, TurnsTo}
use Rattle.law_reach.proofs.Answering.{in_loop_row}
use Rattle.law_reach.proofs.Rows.{heard_answered, in_answer, in_callback, in_turn, stops_before, unheard_answered, went_asks_then}
use Rattle.law_reach.proofs.Running.{ran_goes}

-- no news is that main is done
no_main_in : (it : Item) → list_any is_main_done (actions_of it) ≡ false
no_main_in (item.ReadableServer server) = refl
no_main_in (item.Ready conn ready.Read) = refl
no_main_in (item.Ready conn ready.Write) = refl
no_main_in (item.Ready conn ready.Both) = refl
no_main_in (item.Up conn) = refl
no_main_in (item.Down conn) = refl
no_main_in (item.WritableChild child) = refl
no_main_in (item.Child child told) = refl
no_main_in (item.Extra code bytes) = refl

no_main : (items : List Item) → list_any is_main_done (flat_map actions_of items) ≡ false
no_main [] = refl
no_main (it ∷ items) =
    list_any-append is_main_done (actions_of it) (flat_map actions_of items)
    ∙ ap (λ b. b || list_any is_main_done (flat_map actions_of items)) (no_main_in it) ∙ no_main items

-- ---- what a turn does of itself to the loop
soon_all_loop : (actions : List Action) (l : Loop) → list_any is_main_done actions ≡ false → LoopReaches None l (in_parts (soon_all actions) l)
soon_all_loop [] l other = stays
soon_all_loop (it ∷ actions) l other =
    on (one (OfParts (CallsSoon it)) (or_parts (is_main_done it) _ other).0)
    (soon_all_loop actions (in_parts (soon it) l) (or_parts (is_main_done it) _ other).1)

pub woken_loop : (answer : Answer) (l : Loop) → LoopReaches None l (in_parts (woken_by answer) l)
woken_loop answer l =
    goes
    (on (one (OfParts (Passes (time_of answer))) refl)
    (soon_all_loop (news_of answer) (in_parts (at_time (time_of answer)) l) (no_main (items_of answer)))) (OfParts FallsDue) refl

pub taken_loop : (rest : List Handle) (l : Loop) → LoopReaches None l (in_parts (λ p. record p { pending = rest }) l)
taken_loop rest l = one (OfParts (LeavesPending rest)) refl

pub over_loop : {S : Type 0} (done_before : Bool) (s : State S) → LoopReaches None s.loop (state_of (turn_over done_before s)).loop
over_loop done_before s = at (s.main_done && not done_before)
  where
    cancelled : (b : Bool) → LoopReaches None s.loop (cancelled_if b s).loop
    cancelled true = end_row None s.loop
    cancelled false = stays

    finished : (o : Option Outcome) (b : Bool) → LoopReaches None s.loop (state_of (finished_if o (cancelled_if b s))).loop
    finished None b = cancelled b
    finished (Some outcome) b = cancelled b

    at : (b : Bool) → LoopReaches None s.loop (state_of (finished_if (finished_as (cancelled_if b s)) (cancelled_if b s))).loop
    at b = finished (finished_as (cancelled_if b s)) b

module _ {S : Type 0} (added : Extra S) where
  -- a row of the loop alone
  loop_row : {l : Loop} (s : State S) → LoopReaches None s.loop l → InCallback added None s (record s { loop = l })
  loop_row s row = in_answer added (in_loop_row added s row)

  pub woken_row : (answer : Answer) (s : State S) → InCallback added None s (unbooked_in (woken_by answer) s)
  woken_row answer s = loop_row s (woken_loop answer s.loop)

  pub taken_row : (rest : List Handle) (s : State S) → InCallback added None s (unbooked_in (λ p. record p { pending = rest }) s)
  taken_row rest s = loop_row s (taken_loop rest s.loop)

  pub over_row : (done_before : Bool) (s : State S) → InCallback added None s (state_of (turn_over done_before s))
  over_row done_before s = at (s.main_done && not done_before)
    where
      cancelled : (b : Bool) → InCallback added None s (cancelled_if b s)
      cancelled true = loop_row s (end_row None s.loop)
      cancelled false = stays

      finished : (o : Option Outcome) (b : Bool) → InCallback added None s (state_of (finished_if o (cancelled_if b s)))
      finished None b = cancelled b
      finished (Some outcome) b = cancelled b

      at : (b : Bool) → InCallback added None s (state_of (finished_if (finished_as (cancelled_if b s)) (cancelled_if b s)))
      at b = finished (finished_as (cancelled_if b s)) b

  over_asks : (done_before : Bool) (s : State S) → WentAsks s (turn_over done_before s)
  over_asks done_before s = at (s.main_done && not done_before)
    where
      finished : (o : Option Outcome) (b : Bool) → IsAnswered s (cancelled_if b s) → WentAsks s (finished_if o (cancelled_if b s))
      finished None b same = same
      finished (Some outcome) b same = omega (arith, same)

      at : (b : Bool) → WentAsks s (finished_if (finished_as (cancelled_if b s)) (cancelled_if b s))
      at true = finished (finished_as (cancelled_if true s)) true refl
      at false = finished (finished_as (cancelled_if false s)) false refl

  -- what goes on after a part of a turn
  turns_after : {s t : State S} {it : Went S} → InTurn added s t → IsAnswered s t → TurnsTo added t it → TurnsTo added s it
  turns_after {s} {t} {it} row asked turns = record {
    reaches = on row turns.reaches;
    ends = stops_before added (in_turn added row) it turns.ends;
    asks = went_asks_then s t it asked turns.asks;
  }

  went_turns : (s : State S) (went : Went S) (go_on : State S → Went S) → TurnsTo added s went → ((t : State S) → TurnsTo added t (go_on t))
      → TurnsTo added s (went_on go_on went)
  went_turns s (Goes now) go_on turns each = turns_after turns.reaches turns.asks (each now)
  went_turns s (Stops how last) go_on turns each = turns

module _ {S : Type 0} (limit : ℕ) (added : Extra S) where
  pub first_turns : (handle : Handle) (rest : List Handle) (s : State S) → TurnsTo added s (run_first limit added handle rest s)
  first_turns handle rest s =
      turns_after added (in_callback added (taken_row added rest s)) refl
      (let it = ran_goes limit added handle.dead handle.action (unbooked_in (λ p. record p { pending = rest }) s) in
      record { reaches = in_callback added it.reaches; ends = it.ends; asks = it.asks })

  next_turns : (bar : ℕ) (handles : List Handle) (go_on : State S → Went S) (s : State S) → ((t : State S) → TurnsTo added t (go_on t))
      → TurnsTo added s (next_below limit added bar handles go_on s)
  next_turns bar [] go_on s each = record { reaches = stays; ends = tt; asks = refl }
  next_turns bar (handle ∷ rest) go_on s each = at (nat_lt handle.stamp bar)
    where
      at : (b : Bool) → TurnsTo added s (run_if limit added b handle rest go_on s)
      at true = went_turns added s (run_first limit added handle rest s) go_on (first_turns handle rest s) each
      at false = record { reaches = stays; ends = tt; asks = refl }

  below_turns : (bar count : ℕ) (s : State S) → TurnsTo added s (run_below limit added bar count s)
  unfolding run_below
  below_turns bar zero s = record { reaches = stays; ends = tt; asks = refl }
  below_turns bar (suc count) s = next_turns bar s.loop.parts.pending (run_below limit added bar count) s (below_turns bar count)

  -- the callbacks of a turn, which may end the run
  pub pending_turns : (s : State S) → TurnsTo added s (run_pending limit added s)
  pending_turns s = below_turns s.loop.parts.next_stamp (length s.loop.parts.pending) s

  -- ---- a turn, once its select was answered; it may end the run as main's task ended
  abbrev woken : Answer → State S → State S
  woken answer s = unbooked_in (woken_by answer) s

  pub turned_row : (answer : Answer) (s : State S) → InTurn added s (state_of (turned_by limit added answer s))
  turned_row answer s =
      on (in_callback added (woken_row added answer s)) (at (run_pending limit added (woken answer s)) (pending_turns (woken answer s)).reaches)
    where
      at : (went : Went S) → InTurn added (woken answer s) (state_of went) → InTurn added (woken answer s) (state_of (went_on (turn_over s.main_done) went))
      at (Goes now) row = on row (in_callback added (over_row added s.main_done now))
      at (Stops how last) row = row

  pub turned_asks : (answer : Answer) (s : State S) → WentAsks s (turned_by limit added answer s)
  turned_asks answer s = at (run_pending limit added (woken answer s)) (pending_turns (woken answer s)).asks
    where
      at : (went : Went S) → WentAsks (woken answer s) went → WentAsks s (went_on (turn_over s.main_done) went)
      at (Goes now) asked = went_asks_then s now (turn_over s.main_done now) asked (over_asks added s.main_done now)
      at (Stops how last) asked = asked

  -- ---- a whole turn
  module _ (s : State S) where
    abbrev heard : Answer → List Entry → State S
    heard answer left = noted (event.Got answer) (record (noted (event.Called (call_of added s)) s) { answers = left })

    pub turn_row : InRun s (state_of (turn limit added s))
    unfolding turn
    turn_row = unless (is_stalled added s)
      where
        fit : (b : Bool) (answer : Answer) (t : State S) → InRun t (state_of (fitted b (call_of added s) answer (turned_by limit added) t))
        fit true answer t = in_turn added (turned_row answer t)
        fit false answer t = stays

        by : (entries : List Entry) → s.answers ≡ entries
            → InRun s (state_of (answered_by entries (call_of added s) (turned_by limit added) (noted (event.Called (call_of added s)) s)))
        by [] e = one (Calls (call_of added s)) tt
        by (Refused line cause ∷ entries) e = one (Calls (call_of added s)) tt
        by (Answered answer ∷ entries) e = on (one (Hears (call_of added s) answer entries) e) (fit (fits (call_of added s) answer) answer _)

        unless : (b : Bool) → InRun s (state_of (turn_unless limit added b s))
        unless true = stays
        unless false = by s.answers refl

    pub turn_asks : WentAsks s (turn limit added s)
    unfolding turn
    turn_asks = unless (is_stalled added s)
      where
        fit : (b : Bool) (answer : Answer) (left : List Entry) → IsAnswered s (heard answer left)
            → WentAsks s (fitted b (call_of added s) answer (turned_by limit added) (heard answer left))
        fit true answer left same =
            went_asks_then s (heard answer left) (turned_by limit added answer (heard answer left)) same (turned_asks answer (heard answer left))
        fit false answer left same = omega (arith, same)

        by : (entries : List Entry) → s.answers ≡ entries
            → WentAsks s (answered_by entries (call_of added s) (turned_by limit added) (noted (event.Called (call_of added s)) s))
        by [] e = unheard_answered (call_of added s) s
        by (Refused line cause ∷ entries) e = unheard_answered (call_of added s) s
        by (Answered answer ∷ entries) e = fit (fits (call_of added s) answer) answer entries (heard_answered (call_of added s) answer entries s e)

        unless : (b : Bool) → WentAsks s (turn_unless limit added b s)
        unless true = omega arith
        unless false = by s.answers refl
