-- Futures as trees of numbers, and back. By it a type of code may be seen as futures.
use base.Stored.{coded_unit}
use Rattle.std.specs.Prelude.{◌≡◌, ◌⊎◌, ℕ, Bool, List, Option}
use Rattle.std.specs.Coded.{Coded, code_by, coded_option, coded×, coded⊎, coded_list, coded_ℕ, coded_bool}
use Rattle.std.proofs.Common.{refl, inl, inr}
use Rattle.model_value.specs.Action.{Action}
use Rattle.model_value.specs.Value.{Outcome, Value, Exc}
use Rattle.model_value.specs.declared.outcome.Outcome.TheVariants as outcome
use Rattle.model_loop.specs.Parts.{FutureKind, Plain, OfTask, Many, Future}
use Rattle.aio_base.specs.Code.{coded_value, coded_exc}
use Rattle.aio_ready.specs.contracts.callbacks.Callbacks.{the_row}

abbrev pub CodedOutcome : Type 0
CodedOutcome = Unit {0} ⊎ (Value ⊎ Exc)

abbrev pub ending_of : Outcome → CodedOutcome
ending_of outcome.Cancelled = inl tt
ending_of (outcome.Value value) = inr (inl value)
ending_of (outcome.Failed fault) = inr (inr fault)

abbrev pub outcome_of : CodedOutcome → Outcome
outcome_of (inl _) = outcome.Cancelled
outcome_of (inr (inl value)) = outcome.Value value
outcome_of (inr (inr fault)) = outcome.Failed fault

pub outcome-ending : (o : Outcome) → outcome_of (ending_of o) ≡ o
outcome-ending outcome.Cancelled = refl
outcome-ending (outcome.Value value) = refl
outcome-ending (outcome.Failed fault) = refl

abbrev pub coded_outcome : Coded Outcome
coded_outcome = code_by CodedOutcome (coded⊎ coded_unit (coded⊎ coded_value coded_exc)) ending_of outcome_of outcome-ending

abbrev pub Members : Type 0
Members = Unit {0} ⊎ (ℕ ⊎ (List ℕ × Bool))

abbrev pub members_of : FutureKind → Members
members_of Plain = inl tt
members_of (OfTask task) = inr (inl task)
members_of (Many members asked) = inr (inr (members, asked))

abbrev pub kind_from : Members → FutureKind
kind_from (inl _) = Plain
kind_from (inr (inl task)) = OfTask task
kind_from (inr (inr m)) = Many m.0 m.1

pub kind-members : (k : FutureKind) → kind_from (members_of k) ≡ k
kind-members Plain = refl
kind-members (OfTask task) = refl
kind-members (Many members asked) = refl

abbrev pub coded_kind : Coded FutureKind
coded_kind =
    code_by Members (coded⊎ coded_unit (coded⊎ coded_ℕ (coded× (coded_list coded_ℕ) coded_bool))) members_of kind_from kind-members

abbrev pub coded_future : Coded Future
coded_future =
    code_by (FutureKind × (Option Outcome × List Action)) (coded× coded_kind (coded× (coded_option coded_outcome) the_row.coded))
    (λ f. (f.kind, (f.outcome, f.callbacks)))
    (λ p. record { kind = p.0; outcome = p.1.0; callbacks = p.1.1 })
    (λ _. refl)
