-- A future that is done stays as it is with each call of locks, events and queues; and one that is woken has a value.
use Rattle.std.proofs.Common.{◌≡◌, ◌⊎◌, inl, inr, ℕ, zero, suc, true, List, [], ◌∷◌, ◌++◌, Option, Some, None, slice_get, refl, sym, ap}
use Rattle.std.proofs.Common.{subst, ◌∙◌}
use Rattle.std.specs.Prelude.{is_none}
use Rattle.std.specs.List.{AllByRecursion as Each}
use Rattle.std.proofs.lemmas.Bool.{cases_eq, false≢true}
use Rattle.std.proofs.lemmas.Option.{none-some}
use Rattle.model_value.specs.Value.{Outcome, Value}
use Rattle.model_loop.specs.Futures.{future_outcome, is_pending, is_pending_at, outcome_at, settle}
use Rattle.model_loop.specs.Loop.{Loop}
use Rattle.model_loop.specs.Parts.{Future, Parts}
use Rattle.model_loop.proofs.FutureCases.{settled, settled_as}
use Rattle.model_machine.specs.Extra as extra
use Rattle.model_machine.specs.Extra.{ExtraSaid, ExtraStep, made_by, made_by_all}
use Rattle.model_sync.specs.Synced.{Synced}
use Rattle.law_apart.proofs.Parts.{settle_others}
use Rattle.law_cancel.proofs.Effects.{done_as, settle-futures}
use Rattle.law_cancel.proofs.Lookups.{get-set_same}
use Rattle.law_sync.proofs.Comes.{Comes, Wakes}

abbrev pub Ends : (p q : Parts) → Type 0
Ends p q = (on : ℕ) (outcome : Outcome) → future_outcome p on ≡ Some outcome → future_outcome q on ≡ Some outcome

-- a pending one has no outcome
pub none_yet : (p : Parts) (on : ℕ) → is_pending p on ≡ true → future_outcome p on ≡ None
none_yet p on is = at (slice_get p.futures on) is
  where
    until : (o : Option Outcome) → is_none o ≡ true → o ≡ None
    until None h = refl
    until (Some outcome) h = absurd (false≢true h)

    at : (o : Option Future) → is_pending_at o ≡ true → outcome_at o ≡ None
    at None h = absurd (false≢true h)
    at (Some future) h = until future.outcome h

-- settled, it has this one
pub settled_pending : (on : ℕ) (outcome : Outcome) (p : Parts) → is_pending p on ≡ true → future_outcome (settle on outcome p) on ≡ Some outcome
settled_pending on outcome p is = at (slice_get p.futures on) refl is
  where
    until : (future : Future) → slice_get p.futures on ≡ Some future → (o : Option Outcome) → future.outcome ≡ o → is_none o ≡ true
        → future_outcome (settled_as o on future outcome p) on ≡ Some outcome
    until future e (Some done) o h = absurd (false≢true h)
    until future e None o h =
        subst (λ q. future_outcome q on ≡ Some outcome) (ap (λ x. settled_as x on future outcome p) o)
        (subst (λ q. future_outcome q on ≡ Some outcome) (ap (λ f. settled f on outcome p) e)
        (ap (λ (fs : List Future). outcome_at (slice_get fs on)) (settle-futures on outcome p future e o)
        ∙ ap outcome_at (get-set_same p.futures on future (done_as outcome future) e)))

    at : (o : Option Future) → slice_get p.futures on ≡ o → is_pending_at o ≡ true → future_outcome (settled o on outcome p) on ≡ Some outcome
    at None e h = absurd (false≢true h)
    at (Some future) e h = until future e future.outcome refl h

pub settle_ends : (id : ℕ) (now : Outcome) (p : Parts) → Ends p (settle id now p)
settle_ends id now p on outcome ended = at (cases_eq id on)
  where
    until : (future : Future) (o : Option Outcome) → o ≡ Some outcome → future_outcome (settled_as o on future now p) on ≡ Some outcome
    until future None h = absurd (none-some outcome h)
    until future (Some done) h = ended

    here : (o : Option Future) → outcome_at o ≡ Some outcome → future_outcome (settled o on now p) on ≡ Some outcome
    here None h = absurd (none-some outcome h)
    here (Some future) h = until future future.outcome h

    at : (id ≡ on) ⊎ (id ≡ on → ⊥) → future_outcome (settle id now p) on ≡ Some outcome
    at (inl e) = subst (λ i. future_outcome (settle i now p) on ≡ Some outcome) (sym e) (here (slice_get p.futures on) ended)
    at (inr other) = settle_others id now p on other ∙ ended

push_ends : (fs : List Future) (new : Future) (on : ℕ) (outcome : Outcome) → outcome_at (slice_get fs on) ≡ Some outcome
    → outcome_at (slice_get (fs ++ new ∷ []) on) ≡ Some outcome
push_ends [] new on outcome ended = absurd (none-some outcome ended)
push_ends (x ∷ fs) new zero outcome ended = ended
push_ends (x ∷ fs) new (suc on) outcome ended = push_ends fs new on outcome ended

wakes_end : (O : ℕ → Type 0) (V : Value → Type 0) (steps : List ExtraStep) (l : Loop) → Each (Wakes O V) steps → Ends l.parts (made_by_all steps l).parts
wakes_end O V [] l all on outcome ended = ended
wakes_end O V (extra.Settles future now ∷ steps) l all on outcome ended =
    wakes_end O V steps (made_by (extra.Settles future now) l) all.1 on outcome (settle_ends future now l.parts on outcome ended)
wakes_end O V (_ ∷ steps) l all on outcome ended = absurd all.0

pub comes_end : (O : ℕ → Type 0) (V : Value → Type 0) (next drawn key : ℕ) (said : ExtraSaid Synced) (l : Loop) → Comes O V next drawn key said
    → Ends l.parts (made_by_all said.call.steps l).parts
comes_end O V next drawn key said l (inl g) on outcome ended = wakes_end O V said.call.steps l g.steps on outcome ended
comes_end O V next drawn key said l (inr w) on outcome ended =
    subst (λ steps. future_outcome (made_by_all steps l).parts on ≡ Some outcome) (sym w.steps) (push_ends l.parts.futures _ on outcome ended)
