-- Events are only added: with what was told before, whatever is open, begins what the machine leaves.
use Rattle.std.proofs.Common.{◌≡◌, ℕ, zero, suc, ◌+◌, Bool, false, List, [], ◌∷◌, ◌++◌, length, ◌∙◌, refl, ap, subst, arith}
use Rattle.model_value.specs.Input.{Input}
use Rattle.model_value.specs.declared.input.Input.TheVariants.{Send, Throw}
use Rattle.model_value.specs.Request.{Request}
use Rattle.model_says.specs.Endings.{Saying, Asks, Returns, Raises as Raised, Runaway}
use Rattle.model_wire.specs.declared.event.Event.TheVariants as event
use Rattle.model_wire.specs.Event.{Event}
use Rattle.model_machine.specs.Extra.{Extra}
use Rattle.model_machine.specs.Replies as plain
use Rattle.model_machine.specs.Replies.{decides, reply}
use Rattle.model_machine.specs.State.{ResumePoint, State, generator_of, resumed}
use Rattle.model_machine.specs.Step.{most_answers, says_of, serve, serve_all, served, taken_as}
use Rattle.model_machine.specs.Went.{Went, Goes, Stops, answers_in, went_on}
use Rattle.law_changes.proofs.Folds.{fold}
use Rattle.law_runs.proofs.Counts.{goes_on_same, goes_on_one, goes_on_then, answers-said, answers-ran, answers-got, answers-called}
use Rattle.law_reach.proofs.Opened.{decides_comes, reply_comes}
use Rattle.law_reach.proofs.Rows.{in_answer, in_callback, in_turn}
use Rattle.law_reach.specs.Changes.{StateChange, OfLoop, Says as Speaks, MakesCoroutine, SetsResumePoint as StandsAt, Resumes, NamesFuture, EndsMain}
use Rattle.law_reach.specs.Changes.{ChangesExtra, ChangesStreams}
use Rattle.law_reach.specs.Changes.{Runs, Hears, Calls, MayInRun, made}
use Rattle.law_reach.specs.Reaches.{InRun, left_by}
use Rattle.aio_body.specs.Asking.{EventsGrow, ReplyBegins, WentBegins}

-- ---- rows of changes
-- events are added, and each answer among them is one that was left
abbrev pub IsRowOn : {S : Type 0} → State S → State S → Type 0
IsRowOn s t = EventsGrow s.events t.events × (answers_in t.events + length t.answers ≡ answers_in s.events + length s.answers)

same_on : {S : Type 0} (s : State S) → IsRowOn s s
same_on s = (goes_on_same s.events, refl)

then_on : {S : Type 0} (s t u : State S) → IsRowOn s t → IsRowOn t u → IsRowOn s u
then_on s t u first second = (goes_on_then s.events t.events u.events first.0 second.0, second.1 ∙ first.1)

change_on : {S : Type 0} (change : StateChange S) (s : State S) → MayInRun change s → IsRowOn s (made change s)
change_on (Speaks task text) s may = (goes_on_one s.events (event.Said task text), ap (λ n. n + length s.answers) (answers-said s.events task text))
change_on (Runs it) s may = (goes_on_one s.events (event.Ran it), ap (λ n. n + length s.answers) (answers-ran s.events it))
change_on (Calls call) s may = (goes_on_one s.events (event.Called call), ap (λ n. n + length s.answers) (answers-called s.events call))
change_on (Hears call answer left) s may =
    let asked = s.events ++ event.Called call ∷ [] in
    let a = answers-got asked answer in
    let b = answers-called s.events call in
    let c = ap length may in (
      goes_on_then s.events asked (asked ++ event.Got answer ∷ []) (goes_on_one s.events (event.Called call)) (goes_on_one asked (event.Got answer)),
      omega (arith, a, b, c),
    )
change_on (OfLoop change) s may = same_on s
change_on (MakesCoroutine coroutine arguments) s may = same_on s
change_on (StandsAt resume_point task) s may = same_on s
change_on (Resumes fresh task input) s may = same_on s
change_on (NamesFuture future) s may = same_on s
change_on EndsMain s may = same_on s
change_on (ChangesExtra extra) s may = same_on s
change_on (ChangesStreams streams) s may = same_on s

pub row_on : {S : Type 0} (s t : State S) → InRun s t → IsRowOn s t
row_on s t row = fold IsRowOn same_on then_on change_on row

-- what the state after them tells begins with these
pub row_begins : {S : Type 0} (events : List Event) (s t : State S) → InRun s t → s.events ≡ events → EventsGrow events t.events
row_begins events s t row same = subst (λ (es : List Event). EventsGrow es t.events) same (row_on s t row).0

-- ---- requests
pub replies_begin : {S : Type 0} (events : List Event) (it : plain.RequestReply S) → EventsGrow events (left_by it).events → ReplyBegins events it
replies_begin events (plain.Answers value now) goes = goes
replies_begin events (plain.Raises fault now) goes = goes
replies_begin events (plain.Suspends now) goes = goes
replies_begin events (plain.Halts how last) goes = goes

module _ {S : Type 0} (added : Extra S) (task : ℕ) (events : List Event) (s : State S) (same : s.events ≡ events) where
  pub reply_begins : (request : Request) → ReplyBegins events (reply added task request s)
  reply_begins request =
      replies_begin events (reply added task request s)
      (row_begins events s (left_by (reply added task request s))
      (in_turn added (in_callback added (in_answer added (reply_comes added task request s).reaches))) same)

  pub decides_begins : (stood : ResumePoint) (input : Input) → ReplyBegins events (decides added stood task input s)
  decides_begins stood input =
      replies_begin events (decides added stood task input s)
      (row_begins events s (left_by (decides added stood task input s))
      (in_turn added (in_callback added (in_answer added (decides_comes added task stood input s).reaches))) same)

-- ---- steps
-- whatever comes next only adds events
abbrev pub OnlyAdds : {S : Type 0} → (State S → Went S) → Type 0
OnlyAdds {S} go_on = (t : State S) → WentBegins t.events (go_on t)

pub taken_begins : {S : Type 0} (events : List Event) (it : plain.RequestReply S) (fresh : Bool) (task : ℕ) (go_on : State S → Went S) → OnlyAdds go_on
    → ReplyBegins events it → WentBegins events (taken_as it fresh task go_on)
taken_begins events (plain.Answers value now) fresh task go_on adds goes =
    goes_on_then events now.events _ goes (adds (resumed fresh task (Send value) now))
taken_begins events (plain.Raises fault now) fresh task go_on adds goes =
    goes_on_then events now.events _ goes (adds (resumed fresh task (Throw fault) now))
taken_begins events (plain.Suspends now) fresh task go_on adds goes = goes
taken_begins events (plain.Halts how last) fresh task go_on adds goes = goes

-- one thing after another
pub went_begins : {S : Type 0} (events : List Event) (it : Went S) (go_on : State S → Went S) → OnlyAdds go_on → WentBegins events it
    → WentBegins events (went_on go_on it)
went_begins events (Goes now) go_on adds goes = goes_on_then events now.events _ goes (adds now)
went_begins events (Stops how last) go_on adds goes = goes

module _ {S : Type 0} (limit : ℕ) (added : Extra S) (task : ℕ) where
  pub served_adds : (saying : Saying) (go_on : State S → Went S) → OnlyAdds go_on → OnlyAdds (served limit added saying task go_on)
  served_adds (Asks request) go_on adds s =
      taken_begins s.events (reply added task request s) false task go_on adds (reply_begins added task s.events s refl request)
  served_adds (Returns value) go_on adds s = goes_on_same s.events
  served_adds (Raised fault) go_on adds s = goes_on_same s.events
  served_adds Runaway go_on adds s = goes_on_same s.events

  pub serve_adds : (count : ℕ) → OnlyAdds (serve limit added count task)
  unfolding serve
  serve_adds zero s = goes_on_same s.events
  serve_adds (suc count) s = served_adds (says_of limit added task s) (serve limit added count task) (serve_adds count) s

  pub all_adds : OnlyAdds (serve_all limit added task)
  all_adds s = serve_adds (most_answers limit (generator_of task s).tape) s
