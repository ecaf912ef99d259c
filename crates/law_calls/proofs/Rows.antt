-- A request that isn't for what is added leaves what that keeps as it is, and tells nothing of it: it is the same where nothing
-- that is added changes.
use Rattle.std.proofs.Common.{◌≡◌, ℕ, Bool, true, false, List, [], ◌∷◌, ◌++◌, Option, refl, sym, ap, ◌∙◌}
use Rattle.std.proofs.lemmas.Bool.{false≢true}
use Rattle.std.proofs.lemmas.List.{append-nil, append_assoc}
use Rattle.model_value.specs.declared.request.Request.TheVariants as request
use Rattle.model_value.specs.Request.{Request}
use Rattle.model_value.specs.Value.{Nothing}
use Rattle.model_wire.specs.declared.event.Event.TheVariants as event
use Rattle.model_wire.specs.Call.{Call}
use Rattle.model_wire.specs.Event.{Event}
use Rattle.model_machine.specs.Extra.{AsksNothing, Extra, ExtraCall, ExtraSaid, Answers, nothing_kept}
use Rattle.model_machine.specs.Replies.{reply}
use Rattle.model_machine.specs.State.{State}
use Rattle.law_changes.proofs.Folds.{fold}
use Rattle.law_cases.specs.Trees.{is_aside}
use Rattle.law_reach.specs.Changes.{ByAct, ByAsk, ByItem, ByWake, ExtraCause, IsAskedAside, call_by, made}
use Rattle.law_reach.specs.Changes.{Calls, ChangesExtra, ChangesStreams, EndsMain, Hears, MakesCoroutine, MayInAnswer, NamesFuture, OfLoop, Resumes, Runs, Says}
use Rattle.law_reach.specs.Changes.{SetsResumePoint, StateChange}
use Rattle.law_reach.specs.Reaches.{InAnswer}
use Rattle.law_calls.specs.Tells.{IsUntold}
use Rattle.law_calls.proofs.Events.{heard_untold, missed_untold, untold_none, untold_then}

-- ---- nothing that is added changes
abbrev still_called : {S : Type 0} → State S → ExtraCall S
still_called s = record { state = s.extra; steps = [] }

abbrev still_said : {S : Type 0} → State S → ExtraSaid S
still_said s = record { call = still_called s; answer = Answers Nothing }

abbrev pub unchanging : {S : Type 0} → Extra S
unchanging =
    record {
      ask = λ task code arguments s. still_said s;
      wake = λ key input s. still_said s;
      wakes_left = λ key kept. 0;
      act = λ key s. still_called s;
      item = λ code bytes s. still_called s;
      watches = λ kept. false;
      keeps = λ kept. nothing_kept;
    }

asks_nothing : {S : Type 0} → AsksNothing (unchanging {S = S})
asks_nothing = record { ask = λ task code arguments s. refl; wake = λ key input s. refl }

abbrev pub is_extra_request : Request → Bool
is_extra_request (request.Extra code arguments) = true
is_extra_request _ = false

pub reply_same : {S : Type 0} (added : Extra S) (task : ℕ) (asked : Request) (s : State S) → is_extra_request asked ≡ false
    → reply added task asked s ≡ reply unchanging task asked s
unfolding reply
reply_same added task (request.Extra code arguments) s is = absurd (false≢true (sym is))
reply_same added task _ s is = refl

-- ---- a row of changes then
-- what is kept stays, and what happened is not of it
abbrev pub Untold : {S : Type 0} → State S → State S → Type 0
Untold s t = (t.extra ≡ s.extra) × ((more : List Event) × ((t.events ≡ s.events ++ more) × IsUntold more))

module _ {S : Type 0} where
  pub untold_same : (s : State S) → Untold s s
  untold_same s = (refl, ([], (sym (append-nil s.events), untold_none)))

  untold_next : (s t u : State S) → Untold s t → Untold t u → Untold s u
  untold_next s t u first next = (
    next.0 ∙ first.0,
    (
      first.1.0 ++ next.1.0,
      (
        next.1.1.0 ∙ ap (λ es. es ++ next.1.0) first.1.1.0 ∙ append_assoc s.events first.1.0 next.1.0,
        untold_then first.1.0 next.1.0 first.1.1.1 next.1.1.1,
      ),
    ),
  )

  still_by : (cause : ExtraCause) (s : State S) → (call_by unchanging cause s).state ≡ s.extra
  still_by (ByAsk task code arguments) s = refl
  still_by (ByWake task key input) s = refl
  still_by (ByAct key) s = refl
  still_by (ByItem code bytes) s = refl

  not_aside : (it : Call) → IsAskedAside (unchanging {S = S}) it → is_aside it ≡ false
  not_aside it aside = at (is_aside it) refl
    where
      at : (b : Bool) → is_aside it ≡ b → is_aside it ≡ false
      at true is = absurd (aside is asks_nothing)
      at false is = is

  change_untold : (r : Option ℕ) (change : StateChange S) (s : State S) → MayInAnswer unchanging r change s → Untold s (made change s)
  change_untold r (OfLoop change) s may = untold_same s
  change_untold r (Says task text) s may = (refl, (event.Said task text ∷ [], (refl, (refl, refl))))
  change_untold r (MakesCoroutine coroutine arguments) s may = untold_same s
  change_untold r (SetsResumePoint resume_point task) s may = untold_same s
  change_untold r (Resumes fresh task input) s may = absurd may
  change_untold r (NamesFuture future) s may = untold_same s
  change_untold r EndsMain s may = absurd may
  change_untold r (ChangesExtra extra) s may =
      (may.is ∙ still_by may.cause s, ([], (sym (append-nil s.events), untold_none)))
  change_untold r (ChangesStreams streams) s may = untold_same s
  change_untold r (Runs it) s may = absurd may
  change_untold r (Hears call answer left) s may = (
    refl,
    (
      event.Called call ∷ event.Got answer ∷ [],
      (append_assoc s.events (event.Called call ∷ []) (event.Got answer ∷ []), heard_untold call answer (not_aside call may.aside)),
    ),
  )
  change_untold r (Calls call) s may = (refl, (event.Called call ∷ [], (refl, missed_untold call (not_aside call may.aside))))

  pub row_untold : (r : Option ℕ) {s t : State S} → InAnswer unchanging r s t → Untold s t
  row_untold r row = fold Untold untold_same untold_next (change_untold r) row
