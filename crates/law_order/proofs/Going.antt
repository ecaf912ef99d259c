-- What the loop does of itself schedules no loss: each change by which it schedules its own callbacks alone does not.
use Rattle.std.proofs.Common.{◌≡◌, true, false, refl}
use Rattle.std.proofs.lemmas.Bool.{false≢true}
use Rattle.model_value.specs.declared.action.Action.TheVariants as action
use Rattle.model_value.specs.Action.{Action}
use Rattle.model_loop.specs.Parts.{Parts}
use Rattle.law_changes.specs.Changes.{PartsChange, CallsSoon, CallsLater, Registers, LeavesPending}
use Rattle.law_walk.specs.Walks.{GoesOn, MayOfParts, is_of_loop}
use Rattle.law_order.specs.Quiet.{IsQuiet, MayQuietParts, is_a_loss}
use Rattle.law_order.proofs.Parts.{change_quiet, next, same}

own_is_none : (it : Action) → is_of_loop it ≡ true → is_a_loss it ≡ false
own_is_none (action.Lost conn broken) own = absurd (false≢true own)
own_is_none (action.LostChild child broken) own = absurd (false≢true own)
own_is_none _ own = refl

may_quiet : (change : PartsChange) (p : Parts) → MayOfParts change p → MayQuietParts change p
may_quiet (CallsSoon it) p may = own_is_none it may
may_quiet (CallsLater when it) p may = own_is_none it may
may_quiet (Registers future it) p may = own_is_none it may
may_quiet (LeavesPending rest) p may = may
may_quiet _ p may = tt

pub goes_on : GoesOn IsQuiet
goes_on = record { same = same; next = next; change = λ change p may. change_quiet change p (may_quiet change p may) }
