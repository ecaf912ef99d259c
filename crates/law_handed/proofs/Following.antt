-- In every run each answer comes right after its call, and so both ways to tell what was handed say the same.
use Rattle.std.proofs.Common.{◌≡◌, ℕ, zero, suc, Bool, true, false, ◌&&◌, List, [], ◌∷◌, ◌++◌, Option, Some, None, refl, sym, ap, ◌∙◌, subst}
use Rattle.std.proofs.Common.{append_assoc}
use Rattle.std.proofs.lemmas.Bool.{false≢true}
use Rattle.model_wire.specs.declared.event.Event.TheVariants as event
use Rattle.model_wire.specs.declared.event.Handed.{Handed}
use Rattle.model_wire.specs.Call.{Answer, Call}
use Rattle.model_wire.specs.Event as wire
use Rattle.model_wire.specs.Event.{Event}
use Rattle.model_stream.specs.History as stream
use Rattle.model_machine.specs.Extra.{Extra}
use Rattle.model_machine.specs.Run.{run_after, run_on}
use Rattle.model_machine.specs.State.{State}
use Rattle.model_machine.specs.Turn.{turn}
use Rattle.model_machine.specs.Went.{Went, Goes, Stops, state_of}
use Rattle.law_changes.proofs.Folds.{keep}
use Rattle.law_reach.specs.Changes.{StateChange, OfLoop, Says, MakesCoroutine, SetsResumePoint, Resumes, NamesFuture, EndsMain, ChangesExtra, ChangesStreams}
use Rattle.law_reach.specs.Changes.{Runs, Hears, Calls, MayInRun, made}
use Rattle.law_reach.specs.Reaches.{InRun}
use Rattle.law_reach.proofs.Turning.{turn_row}
use Rattle.law_handed.specs.Following.{AnswersFollow, answers_follow}

-- ---- events put together
-- of two truths both
both_left : (a b : Bool) → a && b ≡ true → a ≡ true
both_left true b is = refl
both_left false b is = absurd (false≢true is)

both_right : (a b : Bool) → a && b ≡ true → b ≡ true
both_right true b is = is
both_right false b is = absurd (false≢true is)

both_are : (a b : Bool) → a ≡ true → b ≡ true → a && b ≡ true
both_are true b left right = right
both_are false b left right = absurd (false≢true left)

follow_on : (more : List Event) → ((asked : Bool) → answers_follow asked more ≡ true) → (asked : Bool) (events : List Event)
    → answers_follow asked events ≡ true → answers_follow asked (events ++ more) ≡ true
follow_on more each asked [] is = each asked
follow_on more each asked (event.Called call ∷ events) is = follow_on more each true events is
follow_on more each asked (event.Got answer ∷ events) is =
    both_are asked (answers_follow false (events ++ more)) (both_left asked (answers_follow false events) is)
    (follow_on more each false events (both_right asked (answers_follow false events) is))
follow_on more each asked (event.Ran action ∷ events) is = follow_on more each false events is
follow_on more each asked (event.Said task text ∷ events) is = follow_on more each false events is

heard_on : (events : List Event) (call : Call) (answer : Answer) → AnswersFollow events
    → AnswersFollow ((events ++ event.Called call ∷ []) ++ event.Got answer ∷ [])
heard_on events call answer is =
    subst AnswersFollow (sym (append_assoc events (event.Called call ∷ []) (event.Got answer ∷ [])))
    (follow_on (event.Called call ∷ event.Got answer ∷ []) (λ asked. refl) false events is)

-- ---- rows of changes
module _ {S : Type 0} where
  change_follows : (change : StateChange S) (s : State S) → MayInRun change s → AnswersFollow s.events → AnswersFollow (made change s).events
  change_follows (OfLoop change) s may is = is
  change_follows (Says task text) s may is = follow_on (event.Said task text ∷ []) (λ asked. refl) false s.events is
  change_follows (MakesCoroutine coroutine arguments) s may is = is
  change_follows (SetsResumePoint resume_point task) s may is = is
  change_follows (Resumes fresh task input) s may is = is
  change_follows (NamesFuture future) s may is = is
  change_follows EndsMain s may is = is
  change_follows (ChangesExtra extra) s may is = is
  change_follows (ChangesStreams streams) s may is = is
  change_follows (Runs it) s may is = follow_on (event.Ran it ∷ []) (λ asked. refl) false s.events is
  change_follows (Hears call answer left) s may is = heard_on s.events call answer is
  change_follows (Calls call) s may is = follow_on (event.Called call ∷ []) (λ asked. refl) false s.events is

  pub row_follows : (s t : State S) → InRun s t → AnswersFollow s.events → AnswersFollow t.events
  row_follows s t row is = keep (λ (u : State S). AnswersFollow u.events) change_follows row is

  -- ---- runs
  after_follows : (limit : ℕ) (added : Extra S) (allowed left : ℕ) (went : Went S) → AnswersFollow (state_of went).events
      → ((now : State S) → AnswersFollow now.events → AnswersFollow (run_on limit added allowed left now).events)
      → AnswersFollow (run_after (run_on limit added allowed left) went).events
  after_follows limit added allowed left (Goes now) is next = next now is
  after_follows limit added allowed left (Stops end last) is next = is

  pub run_follows : (limit : ℕ) (added : Extra S) (allowed left : ℕ) (s : State S) → AnswersFollow s.events
      → AnswersFollow (run_on limit added allowed left s).events
  unfolding run_on
  run_follows limit added allowed zero s is = is
  run_follows limit added allowed (suc left) s is =
      after_follows limit added allowed left (turn limit added s) (row_follows s (state_of (turn limit added s)) (turn_row limit added s) is)
      (run_follows limit added allowed left)

-- ---- what is handed
-- by an answer, where both are of the same call
alike_first : (whom : Handed) (last : Option Call) (answer : Answer) → stream.handed_in whom last answer ≡ wire.handed_after last answer whom
alike_first whom None answer = refl
alike_first whom (Some call) answer = refl

-- `mine` is the call right before that has no answer yet, and `yours` the last one
alike : (whom : Handed) (events : List Event) (asked : Bool) (mine yours : Option Call) → (asked ≡ true → mine ≡ yours)
    → answers_follow asked events ≡ true → stream.handed_after whom mine events ≡ wire.handed_in events yours whom
alike whom [] asked mine yours same is = refl
alike whom (event.Called call ∷ events) asked mine yours same is = alike whom events true (Some call) (Some call) (λ so. refl) is
alike whom (event.Got answer ∷ events) asked mine yours same is =
    ap (λ bytes. bytes ++ stream.handed_after whom None events)
    (ap (λ last. stream.handed_in whom last answer) (same (both_left asked (answers_follow false events) is)) ∙ alike_first whom yours answer)
    ∙ ap (λ bytes. wire.handed_after yours answer whom ++ bytes)
    (alike whom events false None yours (λ so. absurd (false≢true so)) (both_right asked (answers_follow false events) is))
alike whom (event.Ran action ∷ events) asked mine yours same is =
    alike whom events false mine yours (λ so. absurd (false≢true so)) is
alike whom (event.Said task text ∷ events) asked mine yours same is =
    alike whom events false mine yours (λ so. absurd (false≢true so)) is

pub handed_alike : (events : List Event) → AnswersFollow events → (whom : Handed) → stream.handed whom events ≡ wire.handed_in events None whom
handed_alike events is whom = alike whom events false None None (λ so. refl) is
