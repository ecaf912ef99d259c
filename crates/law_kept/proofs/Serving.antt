-- What goes on holds of what a request comes to, and of what a task makes of its input where it stands at one.
use Rattle.std.proofs.Common.{◌≡◌, ℕ, ℤ, zero, suc, Bool, true, false, List, Option, Some, None, refl}
use Rattle.std.proofs.lemmas.Bool.{false≢true}
use Rattle.model_value.specs.declared.request.Request.TheVariants as request
use Rattle.model_value.specs.Input.{Input}
use Rattle.model_value.specs.Request.{Request}
use Rattle.model_value.specs.Value.{Outcome, Value}
use Rattle.model_wire.specs.declared.call.Call.TheVariants as call
use Rattle.model_machine.specs.Arguments.{as_int, as_list}
use Rattle.model_machine.specs.Extra as extra
use Rattle.model_machine.specs.Extra.{Extra, ExtraAnswer, called}
use Rattle.model_machine.specs.Outcomes.{input_of}
use Rattle.model_machine.specs.Replies.{RequestReply, Wake, Halts, decides, ended, given, input_by, reply, serves, serves_as, serves_until, waits, woken}
use Rattle.model_machine.specs.Replies.{woken_within}
use Rattle.model_machine.specs.State.{ResumePoint, Asked, Sleeping, Leaving, Serving, Connecting, Yielding, Reading, ReadingAll, State, stands}
use Rattle.law_reach.specs.Reaches.{left_by}
use Rattle.law_kept.specs.Walks.{StoodAt, Walks, is_extra_request}
use Rattle.law_kept.proofs.Requests.{asked_on, beside_same, decides_goes, reply_goes, waits_beside}
use Rattle.law_kept.proofs.Standing.{set_at}

stood_at : {S : Type 0} (task on key : ℕ) (s : State S) → StoodAt task key s (stands (Serving key) task (waits task on s))
stood_at task on key s =
    let it = waits_beside task on s in
    record { kept = it.kept; loop = it.loop; stands = λ other stood h. set_at s.generators task key _ other stood refl h }

module _ {S : Type 0} {added : Extra S} {Holds : State S → Type 0} {Called : (task : ℕ) → ExtraAnswer → State S → Type 0}
    {Woken : (task key : ℕ) → State S → Type 0} (walks : Walks added Holds Called Woken) (task : ℕ) where
  abbrev Leaves : RequestReply S → Type 0
  Leaves it = Holds (left_by it)

  -- ---- what is added
  abbrev WakesOn : Wake S → Type 0
  WakesOn wake = (key : ℕ) (input : Input) (s : State S) → Woken task key s → Leaves (wake key input s)

  until_on : (o : Option Outcome) (wake : Wake S) (on key : ℕ) (s : State S) → ended s on ≡ o → WakesOn wake → Called task (extra.Waits on key) s
      → Leaves (serves_until o wake task on key s)
  until_on (Some outcome) wake on key s is wakes it = wakes key (input_of outcome) s (walks.done task on key outcome s is it)
  until_on None wake on key s is wakes it = walks.waits task on key s _ (stood_at task on key s) it

  serves_on : (answer : ExtraAnswer) (wake : Wake S) (s : State S) → WakesOn wake → Called task answer s → Leaves (serves_as answer wake task s)
  serves_on (extra.Answers value) wake s wakes it = walks.over task (extra.Answers value) s it
  serves_on (extra.Raises fault) wake s wakes it = walks.over task (extra.Raises fault) s it
  serves_on (extra.Waits on key) wake s wakes it = until_on (ended s on) wake on key s refl wakes it
  serves_on (extra.Asks code bytes key) wake s wakes it =
      asked_on Halts Leaves s (λ how last here. walks.beside s last here (walks.over task (extra.Asks code bytes key) s it))
      (call.Extra code bytes) (λ said. wake key (input_by said)) s (beside_same s)
      (λ said t here. wakes key (input_by said) t (walks.hears task key code bytes s t here it))

  within_on : (wakes : ℕ) → WakesOn (woken_within added wakes task)
  within_on zero key input s it = walks.woken task key s it
  within_on (suc wakes) key input s it =
      serves_on (added.wake key input s).answer (woken_within added wakes task) (called (added.wake key input s).call s) (within_on wakes)
      (walks.wakes task key input s it)

  woken_on : WakesOn (woken added task)
  woken_on key input s it = within_on (suc (added.wakes_left key s.extra)) key input s it

  -- ---- the table
  extra_on : (asked : Request) (s : State S) → is_extra_request asked ≡ true → Holds s → Leaves (reply added task asked s)
  unfolding reply
  extra_on (request.Extra code arguments) s is holds = number (as_int code)
    where
      items : (n : ℤ) (o : Option (List Value))
          → Leaves (given o (λ list now. serves (added.ask task n list now) (woken added task) task now) s)
      items n None = holds
      items n (Some list) =
          serves_on (added.ask task n list s).answer (woken added task) (called (added.ask task n list s).call s) woken_on (walks.asks task n list s holds)

      number : (o : Option ℤ)
          → Leaves (given o (λ n. given (as_list arguments) (λ list now. serves (added.ask task n list now) (woken added task) task now)) s)
      number None = holds
      number (Some n) = items n (as_list arguments)
  extra_on _ s is holds = absurd (false≢true is)

  pub reply_on : (asked : Request) (s : State S) → Holds s → Leaves (reply added task asked s)
  reply_on asked s holds = at (is_extra_request asked) refl
    where
      at : (b : Bool) → is_extra_request asked ≡ b → Leaves (reply added task asked s)
      at true is = extra_on asked s is holds
      at false is = walks.beside s (left_by (reply added task asked s)) (reply_goes added task asked s is) holds

  -- ---- what a task stands at
  pub decides_on : (resume_point : ResumePoint) (input : Input) (s : State S) → Holds s → ((key : ℕ) → resume_point ≡ Serving key → Woken task key s)
      → Leaves (decides added resume_point task input s)
  decides_on (Serving key) input s holds stood = woken_on key input s (stood key refl)
  decides_on Asked input s holds stood = walks.beside s _ (decides_goes added task Asked input s refl) holds
  decides_on (Sleeping tag) input s holds stood = walks.beside s _ (decides_goes added task (Sleeping tag) input s refl) holds
  decides_on (Leaving group) input s holds stood = walks.beside s _ (decides_goes added task (Leaving group) input s refl) holds
  decides_on (Connecting conn) input s holds stood = walks.beside s _ (decides_goes added task (Connecting conn) input s refl) holds
  decides_on (Yielding whom) input s holds stood = walks.beside s _ (decides_goes added task (Yielding whom) input s refl) holds
  decides_on (Reading from op on) input s holds stood = walks.beside s _ (decides_goes added task (Reading from op on) input s refl) holds
  decides_on (ReadingAll from taken on) input s holds stood =
      walks.beside s _ (decides_goes added task (ReadingAll from taken on) input s refl) holds
