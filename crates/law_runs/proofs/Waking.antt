-- What is added is woken no more often than it says.
use Rattle.std.proofs.Common.{◌≡◌, ℕ, zero, suc, ◌+◌, ◌<◌, Bool, true, false, List, [], ◌∷◌, Option, Some, None, is_some, refl, ap, ◌∙◌, arith}
use Rattle.model_value.specs.Input.{Input}
use Rattle.model_value.specs.Value.{Outcome}
use Rattle.model_wire.specs.declared.call.Call.TheVariants as call
use Rattle.model_wire.specs.declared.event.Event.TheVariants as event
use Rattle.model_wire.specs.Call.{Answer, Call}
use Rattle.model_wire.specs.Fits.{fits}
use Rattle.model_wire.specs.Journal.{Entry, Answered, Refused}
use Rattle.model_machine.specs.Extra as extra
use Rattle.model_machine.specs.Extra.{AsksNothing, Extra, ExtraAnswer, WakesFall, called, is_woken_at_once, key_of, no_extra}
use Rattle.model_machine.specs.Outcomes.{input_of}
use Rattle.model_machine.specs.Replies.{RequestReply, Halts, ended, input_by, serves_as, serves_until, woken_within}
use Rattle.model_machine.specs.State.{State, noted}
use Rattle.model_machine.specs.Went.{answered_so, ask_so, fitted_so}

-- what an ask comes to is the same where what follows is, after whatever the outside answers
pub asks_alike : {S : Type 0} (call : Call) (next other : Answer → State S → RequestReply S) (s : State S)
    → ((answer : Answer) (t : State S) → t.extra ≡ s.extra → next answer t ≡ other answer t) → ask_so Halts call next s ≡ ask_so Halts call other s
asks_alike {S} call next other s each = by s.answers
  where
    fit : (b : Bool) (answer : Answer) (t : State S) → t.extra ≡ s.extra → fitted_so Halts b call answer next t ≡ fitted_so Halts b call answer other t
    fit true answer t same = each answer t same
    fit false answer t same = refl

    by : (entries : List Entry)
        → answered_so Halts entries call next (noted (event.Called call) s) ≡ answered_so Halts entries call other (noted (event.Called call) s)
    by [] = refl
    by (Refused line cause ∷ entries) = refl
    by (Answered answer ∷ entries) = fit (fits call answer) answer _ refl

module _ {S : Type 0} (added : Extra S) (falls : WakesFall added) (task : ℕ) where
  abbrev pub Ends : ℕ → Type 0
  Ends count = (more key : ℕ) (input : Input) (s : State S) → added.wakes_left key s.extra < count
      → woken_within added (count + more) task key input s ≡ woken_within added count task key input s

  pub woken_ends : (count : ℕ) → Ends count
  woken_ends zero = λ more key input s h. absurd (omega (arith, h))
  woken_ends (suc count) = λ more key input s h.
      let one : suc count + more ≡ suc (count + more) = omega arith in
      ap (λ n. woken_within added n task key input s) one ∙ again count (woken_ends count) more key input s h
    where
      again : (count : ℕ) → Ends count → (more key : ℕ) (input : Input) (s : State S) → added.wakes_left key s.extra < suc count
          → woken_within added (suc (count + more)) task key input s ≡ woken_within added (suc count) task key input s
      again count ends more key input s h = at (added.wake key input s).answer refl
        where
          until : (on next : ℕ) (o : Option Outcome)
              → (is_some o ≡ true → added.wakes_left next (added.wake key input s).call.state < count)
              → serves_until o (woken_within added (count + more) task) task on next (called (added.wake key input s).call s)
              ≡ serves_until o (woken_within added count task) task on next (called (added.wake key input s).call s)
          until on next (Some outcome) less = ends more next (input_of outcome) (called (added.wake key input s).call s) (less refl)
          until on next None less = refl

          -- fewer are left, where the request is woken at once
          fewer : (answer : ExtraAnswer) (next : ℕ) → (added.wake key input s).answer ≡ answer → key_of answer ≡ Some next
              → is_woken_at_once answer (called (added.wake key input s).call s).loop ≡ true
              → added.wakes_left next (added.wake key input s).call.state < count
          fewer answer next e named once =
              let less = falls key input s next (ap key_of e ∙ named)
              (ap (λ a. is_woken_at_once a (called (added.wake key input s).call s).loop) e ∙ once) in
              omega (arith, less, h)

          at : (answer : ExtraAnswer) → (added.wake key input s).answer ≡ answer
              → serves_as answer (woken_within added (count + more) task) task (called (added.wake key input s).call s)
              ≡ serves_as answer (woken_within added count task) task (called (added.wake key input s).call s)
          at (extra.Answers value) e = refl
          at (extra.Raises fault) e = refl
          at (extra.Waits on next) e =
              until on next (ended (called (added.wake key input s).call s) on) (λ done. fewer (extra.Waits on next) next e refl done)
          at (extra.Asks code bytes next) e =
              let less = fewer (extra.Asks code bytes next) next e refl refl in
              asks_alike (call.Extra code bytes) (λ said. woken_within added (count + more) task next (input_by said))
              (λ said. woken_within added count task next (input_by said)) (called (added.wake key input s).call s)
              (λ said t same. ends more next (input_by said) t (let is = ap (added.wakes_left next) same in omega (arith, less, is)))

pub nothing_falls : WakesFall no_extra
nothing_falls = λ key input s next e once. absurd (cc)

pub nothing_asks : AsksNothing no_extra
nothing_asks = record { ask = λ task code arguments s. refl; wake = λ key input s. refl }
