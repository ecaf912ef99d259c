-- Whatever streams and children do is a row of changes, in a callback and in a request, and one lemma says so for each of them.
use Rattle.std.proofs.Common.{◌≡◌, refl, Bool, true, false, List, [], ◌∷◌, sym, subst}
use Rattle.model_wire.specs.declared.event.Event.TheVariants as event
use Rattle.model_wire.specs.Call.{Answer, Call}
use Rattle.model_wire.specs.Fits.{fits}
use Rattle.model_wire.specs.Journal.{Entry, Answered, Refused}
use Rattle.model_wire.specs.Trace.{End}
use Rattle.model_stream.specs.Doing as doing
use Rattle.model_stream.specs.Doing.{Doing, Ends, Changes, Asks}
use Rattle.model_machine.specs.Does.{changed, does}
use Rattle.model_machine.specs.State.{State, noted, unbooked_in}
use Rattle.model_machine.specs.Went.{answered_so, ask_so, fitted_so}
use Rattle.law_changes.specs.Changes.{OfParts}
use Rattle.law_changes.proofs.Folds.{on, one}
use Rattle.law_reach.specs.Changes.{Calls, Hears, OfLoop}
use Rattle.law_reach.specs.Reaches.{InRun}
use Rattle.law_reach.specs.Streams.{of_doing}

module _ {S R : Type 0} (left : R → State S) (halts : End → State S → R) (stays : (how : End) (t : State S) → left (halts how t) ≡ t) where
  halted : (how : End) {s t : State S} → InRun s t → InRun s (left (halts how t))
  halted how {s} {t} row = subst (InRun s) (sym (stays how t)) row

  asked_row : (call : Call) (next : Answer → State S → R) (s : State S) → ((answer : Answer) (t : State S) → InRun t (left (next answer t)))
      → InRun s (left (ask_so halts call next s))
  asked_row call next s each = by s.answers refl
    where
      fit : (b : Bool) (answer : Answer) {t : State S} → InRun s t → InRun s (left (fitted_so halts b call answer next t))
      fit true answer row = on row (each answer _)
      fit false answer row = halted _ row

      by : (entries : List Entry) → s.answers ≡ entries → InRun s (left (answered_so halts entries call next (noted (event.Called call) s)))
      by [] e = halted _ (one (Calls call) tt)
      by (Refused line cause ∷ entries) e = halted _ (one (Calls call) tt)
      by (Answered answer ∷ entries) e = fit (fits call answer) answer (one (Hears call answer entries) e)

  change_row : (change : doing.Change) (s : State S) → InRun s (unbooked_in (changed change) s)
  change_row doing.MakeFuture s = one (OfLoop (OfParts (of_doing doing.MakeFuture))) tt
  change_row (doing.CallSoon action) s = one (OfLoop (OfParts (of_doing (doing.CallSoon action)))) tt
  change_row (doing.Settle future outcome) s = one (OfLoop (OfParts (of_doing (doing.Settle future outcome)))) tt

  pub done_row : {A : Type 0} (tree : Doing A) (next : A → State S → R) (s : State S) → ((it : A) (t : State S) → InRun t (left (next it t)))
      → InRun s (left (does halts tree next s))
  done_row (Ends result) next s each = each result s
  done_row (Changes change rest) next s each = on (change_row change s) (done_row rest next (unbooked_in (changed change) s) each)
  done_row (Asks call rest) next s each = asked_row call (λ answer. does halts (rest answer) next) s (λ answer t. done_row (rest answer) next t each)
