-- A request that is woken and waits does so under its key, and on what is pending.
use Rattle.std.proofs.Common.{◌≡◌, ℕ, Bool, true, false, [], ◌∷◌, Option, Some, None, refl, sym, ap, ◌∙◌}
use Rattle.std.specs.Prelude.{is_some, if◌then◌else◌}
use Rattle.std.specs.Option.{option_map_or}
use Rattle.std.proofs.lemmas.Bool.{false≢true}
use Rattle.model_value.specs.Input.{Input}
use Rattle.model_value.specs.declared.input.Input.TheVariants.{Send, Throw}
use Rattle.model_loop.specs.Futures.{next_future, outcome_at}
use Rattle.model_loop.specs.Parts.{Plain}
use Rattle.model_machine.specs.Extra.{ExtraSaid, KeepsKeys, MakesPlain, Raises, Waits, WakesFall, called, is_woken_at_once, key_of}
use Rattle.model_machine.specs.State.{State}
use Rattle.model_reach.specs.Part.{place_of}
use Rattle.law_cancel.proofs.Lookups.{get-push_last}
use Rattle.model_exec.specs.Execed.{Asking, Execed, Standing, Waiting, accept, exec_part, says, stand_no_more, stand_on, standing_at}
use Rattle.model_exec.specs.Serving.{answered, exec_means, is_next, strange_answer, woken}

-- it waits on what is pending, under this key, or it waits no more
abbrev WaitsAgain : (key : ℕ) → State Execed → ExtraSaid Execed → Type 0
WaitsAgain key s said =
    ((next : ℕ) → key_of said.answer ≡ Some next → next ≡ key) × (is_woken_at_once said.answer (called said.call s).loop ≡ false)

no_key : (key next : ℕ) → None ≡ Some next → next ≡ key
no_key key next e = cc

module _ (key place : ℕ) (s : State Execed) where
  answered_again : (input : Input) → WaitsAgain key s (answered key place input s.loop.parts s.extra)
  answered_again (Send value) = at (is_next s.extra value)
    where
      at : (b : Bool)
          → WaitsAgain key s
          (if b then says (accept place (stand_on place (Waiting (next_future s.loop.parts) None) s.extra)) (MakesPlain ∷ [])
          (Waits (next_future s.loop.parts) key)
          else says (stand_no_more place s.extra) [] (Raises strange_answer))
      at true = (
        λ next e. ap (λ o. option_map_or (λ (k : ℕ). k) o key) (sym e),
        ap (λ o. is_some (outcome_at o)) (get-push_last s.loop.parts.futures (record { kind = Plain; outcome = None; callbacks = [] })),
      )
      at false = (λ next e. no_key key next e, refl)
  answered_again (Throw exception) = (λ next e. no_key key next e, refl)

  again : (input : Input) (o : Option Standing) → WaitsAgain key s (woken o key place input s.loop.parts s.extra)
  again (Send value) None = (λ next e. no_key key next e, refl)
  again (Throw exception) None = (λ next e. no_key key next e, refl)
  again input (Some Asking) = answered_again input
  again (Send value) (Some (Waiting on None)) = (λ next e. no_key key next e, refl)
  again (Send value) (Some (Waiting on (Some result))) = (λ next e. no_key key next e, refl)
  again (Throw exception) (Some (Waiting on came)) = (λ next e. no_key key next e, refl)

pub exec_falls : WakesFall exec_means
exec_falls = λ key input s next e once.
    absurd (false≢true (sym (again key (place_of exec_part key) s input (standing_at (place_of exec_part key) s.extra)).1 ∙ once))

pub exec_same : KeepsKeys exec_means
exec_same = λ key input s next e. (again key (place_of exec_part key) s input (standing_at (place_of exec_part key) s.extra)).0 next e
