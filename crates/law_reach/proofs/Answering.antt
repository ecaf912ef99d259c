-- What a request comes to is a row of changes.
use Rattle.std.proofs.Common.{◌≡◌, ℕ, zero, suc, ◌+◌, pos, refl, sym, ap, inl, ◌∙◌, arith, length, Bool, true, false, Option, Some, None}
use Rattle.std.proofs.lemmas.Bool.{false≢true}
use Rattle.model_value.specs.declared.action.Action.TheVariants as action
use Rattle.model_value.specs.declared.input.Input.TheVariants.{Send, Throw}
use Rattle.model_value.specs.Input.{Input}
use Rattle.model_value.specs.Request.{Request}
use Rattle.model_value.specs.Value.{Outcome, Exc}
use Rattle.model_wire.specs.declared.call.Call.TheVariants as call
use Rattle.model_loop.specs.Futures.{next_future}
use Rattle.model_loop.specs.Groups.{GroupExit, Waits, Passes, Raises as RaisedBy, exit_begin}
use Rattle.model_loop.specs.Ledger.{ByScript}
use Rattle.model_loop.specs.Loop.{Loop}
use Rattle.model_loop.specs.Parts.{Plain}
use Rattle.model_loop.specs.Timeouts.{exit_timeout}
use Rattle.model_machine.specs.Extra as extra
use Rattle.model_machine.specs.Extra.{AsksNothing, Extra, ExtraAnswer, ExtraCall, ExtraSaid, asks_outside, called}
use Rattle.model_machine.specs.Outcomes.{input_of}
use Rattle.model_machine.specs.Replies.{RequestReply, Wake, alarmed, ended, exits_as, exits_timeout, input_by, replied, serves, serves_as}
use Rattle.model_machine.specs.Replies.{serves_until}
use Rattle.model_machine.specs.Replies.{shown_all, timed_out_if, waits, woken, woken_within}
use Rattle.model_machine.specs.State.{Sleeping, Leaving, Serving, State, unbooked_in, with_loop}
use Rattle.law_changes.specs.Changes.{CallsSoon, CallsLater, MakesFuture, Settles, MakesTask, OfParts}
use Rattle.law_changes.specs.Reaches.{stays, goes, LoopReaches}
use Rattle.law_changes.proofs.LoopRows.{asks_row, create_row, enter_group_row, enter_row, exit_begin_row, exit_timeout_row}
use Rattle.law_changes.proofs.LoopRows.{reschedule_row, suspend_row, takes_row}
use Rattle.law_changes.proofs.Folds.{one, on}
use Rattle.law_cases.specs.Cases.{Replies, raises, leaves_none, exits_none, tells, names_itself, hands_on, pauses_on, alarms, awaits, prints, makes, sets}
use Rattle.law_cases.specs.Cases.{fails, cancels, uncancels, spawns_it, enters}
use Rattle.law_cases.specs.Cases.{leaves, moves, enters_one, exits, creates_it, serves_it}
use Rattle.law_reach.specs.Changes.{OfLoop, Says, MakesCoroutine, SetsResumePoint, NamesFuture, ChangesExtra, ExtraCause, ByAsk, ByWake}
use Rattle.law_reach.specs.Changes.{IsCauseOf, call_by}
use Rattle.law_reach.specs.Reaches.{ComesTo, InAnswer}
use Rattle.law_reach.proofs.Rows.{asks-said}
use Rattle.law_reach.proofs.Trees.{ask_comes, comes_after}
use Rattle.law_reach.proofs.Extras.{all_row}

-- a row of the loop is one of the state
pub in_loop_row : {S : Type 0} (added : Extra S) {r : Option ℕ} {l m : Loop} (s : State S) → LoopReaches r l m
    → InAnswer added r (record s { loop = l }) (record s { loop = m })
in_loop_row added s stays = stays
in_loop_row added s (goes row change may) = goes (in_loop_row added s row) (OfLoop change) may

pub called_row : {S : Type 0} (added : Extra S) (r : Option ℕ) (cause : ExtraCause) → IsCauseOf r cause → (s : State S)
    → InAnswer added r s (called (call_by added cause s) s)
called_row added r cause by s =
    let call = call_by added cause s in
    on (one (ChangesExtra call.state) (record { cause = cause; by = by; is = refl }))
    (in_loop_row added (record s { extra = call.state }) (all_row r call.steps s.loop))

module _ {S : Type 0} (added : Extra S) (task : ℕ) where
  abbrev Row : State S → State S → Type 0
  Row s t = InAnswer added (Some task) s t

  abbrev Comes : State S → RequestReply S → Type 0
  Comes s it = ComesTo added (Some task) s it

  pub replied_comes : (input : Input) (s : State S) → Comes s (replied input s)
  replied_comes (Send value) s = record { reaches = stays; ends = tt; asks = refl }
  replied_comes (Throw fault) s = record { reaches = stays; ends = tt; asks = refl }

  -- ---- waits
  pub waits_row : (id : ℕ) (s : State S) → Row s (waits task id s)
  waits_row id s = in_loop_row added s (suspend_row task id s.loop)

  -- ---- timeouts and groups
  exits_timeout_comes : (raised : Option Exc) (id : ℕ) (s : State S) → Comes s (exits_timeout raised id s)
  exits_timeout_comes raised id s = at (exit_timeout raised id s.loop).timed_out
    where
      at : (b : Bool) → Comes s (timed_out_if b (with_loop (exit_timeout raised id s.loop).loop s))
      at true = record { reaches = in_loop_row added s (exit_timeout_row (Some task) raised id s.loop); ends = tt; asks = refl }
      at false = record { reaches = in_loop_row added s (exit_timeout_row (Some task) raised id s.loop); ends = tt; asks = refl }

  pub exits_comes : (answer : GroupExit) (id : ℕ) (l : Loop) (s : State S) → LoopReaches (Some task) s.loop l
      → Comes s (exits_as answer task id (with_loop l s))
  exits_comes (Waits future) id l s row = record {
    reaches = goes (on (in_loop_row added s row) (waits_row future (with_loop l s))) (SetsResumePoint (Leaving id) task) refl;
    ends = tt;
    asks = refl;
  }
  exits_comes Passes id l s row = record { reaches = in_loop_row added s row; ends = tt; asks = refl }
  exits_comes (RaisedBy fault) id l s row = record { reaches = in_loop_row added s row; ends = tt; asks = refl }

  -- ---- what is added
  abbrev WakeComes : Wake S → Type 0
  WakeComes wake = (key : ℕ) (input : Input) (s : State S) → Comes s (wake key input s)

  until_comes : (o : Option Outcome) (wake : Wake S) (id key : ℕ) (s : State S) → WakeComes wake → Comes s (serves_until o wake task id key s)
  until_comes (Some outcome) wake id key s wakes = wakes key (input_of outcome) s
  until_comes None wake id key s wakes = record { reaches = goes (waits_row id s) (SetsResumePoint (Serving key) task) refl; ends = tt; asks = refl }

  -- it asks the outside only where it may
  abbrev AsksBy : ExtraAnswer → Type 0
  AsksBy answer = asks_outside answer ≡ true → AsksNothing added → ⊥

  as_comes : (answer : ExtraAnswer) (wake : Wake S) (s : State S) → WakeComes wake → AsksBy answer → Comes s (serves_as answer wake task s)
  as_comes (extra.Answers value) wake s wakes asks = record { reaches = stays; ends = tt; asks = refl }
  as_comes (extra.Raises fault) wake s wakes asks = record { reaches = stays; ends = tt; asks = refl }
  as_comes (extra.Waits id key) wake s wakes asks = until_comes (ended s id) wake id key s wakes
  as_comes (extra.Asks code bytes key) wake s wakes asks =
      ask_comes added (Some task) (call.Extra code bytes) (λ said. wake key (input_by said)) s (λ closed nothing. asks refl nothing) refl
      (λ is nothing. asks refl nothing) (λ said t same. wakes key (input_by said) t)

  serves_comes : (said : ExtraSaid S) (wake : Wake S) (s : State S) → Row s (called said.call s) → WakeComes wake → AsksBy said.answer
      → Comes s (serves said wake task s)
  serves_comes said wake s row wakes asks =
      comes_after added (Some task) row refl (as_comes said.answer wake (called said.call s) wakes asks)

module _ {S : Type 0} (added : Extra S) (task : ℕ) where
  within_comes : (wakes : ℕ) → WakeComes added task (woken_within added wakes task)
  within_comes zero key input s = record { reaches = stays; ends = inl tt; asks = omega arith }
  within_comes (suc wakes) key input s = serves_comes added task (added.wake key input s) (woken_within added wakes task) s
      (called_row added (Some task) (ByWake task key input) refl s) (within_comes wakes)
      (λ is nothing. false≢true (sym (nothing.wake key input s) ∙ is))

  pub woken_comes : WakeComes added task (woken added task)
  woken_comes key input s = within_comes (suc (added.wakes_left key s.extra)) key input s

  -- ---- the table, by its cases
  pub case_comes : (s : State S) {asked : Request} {it : RequestReply S} → Replies added task s asked it → ComesTo added (Some task) s it
  case_comes s (raises fault f) = record { reaches = stays; ends = tt; asks = refl }
  case_comes s (leaves_none timeout raised fault e) = record { reaches = stays; ends = tt; asks = refl }
  case_comes s (exits_none group raised fault e) = record { reaches = stays; ends = tt; asks = refl }
  case_comes s (tells value none b) = record { reaches = stays; ends = tt; asks = refl }
  case_comes s names_itself = record { reaches = stays; ends = tt; asks = refl }
  case_comes s (hands_on on outcome e b) = replied_comes added task (input_of outcome) s
  case_comes s (pauses_on may b) = record { reaches = one (OfLoop (OfParts (CallsSoon (action.Step task)))) refl; ends = tt; asks = refl }
  case_comes s (alarms x delay) = record {
    reaches = goes (on (goes (one (OfLoop (OfParts (MakesFuture Plain))) tt) (OfLoop (OfParts (CallsLater _ _))) tt)
        (waits_row added task (next_future s.loop.parts) (unbooked_in (alarmed task (pos (suc delay))) s)))
        (SetsResumePoint (Sleeping s.loop.parts.next_tag) task) refl;
    ends = tt;
    asks = refl;
  }
  case_comes s (awaits x id e none) = record { reaches = waits_row added task id s; ends = tt; asks = refl }
  case_comes s (prints values) = record {
    reaches = one (Says task (shown_all values)) refl;
    ends = tt;
    asks = ap (λ n. n + length s.answers) (asks-said s.events task (shown_all values));
  }
  case_comes s (makes few) = record {
    reaches = goes (one (NamesFuture (next_future s.loop.parts)) tt) (OfLoop (OfParts (MakesFuture Plain))) tt;
    ends = tt;
    asks = refl;
  }
  case_comes s (sets future value on e) = record { reaches = one (OfLoop (OfParts (Settles on _))) tt; ends = tt; asks = refl }
  case_comes s (fails future fault on it e) = record { reaches = one (OfLoop (OfParts (Settles on _))) tt; ends = tt; asks = refl }
  case_comes s (cancels x id) = record { reaches = in_loop_row added s (asks_row (Some task) (ByScript task) id s.loop); ends = tt; asks = refl }
  case_comes s (uncancels x other) = record { reaches = in_loop_row added s (takes_row (Some task) (ByScript task) other s.loop); ends = tt; asks = refl }
  case_comes s (spawns_it coroutine arguments few) = record {
    reaches = goes (one (OfLoop (OfParts MakesTask)) tt) (MakesCoroutine coroutine arguments) tt;
    ends = tt;
    asks = refl;
  }
  case_comes s (enters x delay few) = record { reaches = in_loop_row added s (enter_row (Some task) task delay s.loop); ends = tt; asks = refl }
  case_comes s (leaves timeout raised id e) = exits_timeout_comes added task raised id s
  case_comes s (moves timeout x id when e) = record { reaches = in_loop_row added s (reschedule_row (Some task) id when s.loop); ends = tt; asks = refl }
  case_comes s (enters_one few) = record { reaches = in_loop_row added s (enter_group_row (Some task) task s.loop); ends = tt; asks = refl }
  case_comes s (exits group raised id e) =
      exits_comes added task (exit_begin raised id s.loop).answer id (exit_begin raised id s.loop).loop s (exit_begin_row (Some task) raised id s.loop)
  case_comes s (creates_it group id coroutine arguments few e) = record {
    reaches = goes (in_loop_row added s (create_row (Some task) id s.loop)) (MakesCoroutine coroutine arguments) tt;
    ends = tt;
    asks = refl;
  }
  case_comes s (serves_it code arguments number items) =
      serves_comes added task (added.ask task number items s) (woken added task) s (called_row added (Some task) (ByAsk task number items) refl s) woken_comes
      (λ is nothing. false≢true (sym (nothing.ask task number items s) ∙ is))
