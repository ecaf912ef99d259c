-- A wake, by the tree.
use Rattle.std.proofs.Common.{◌≡◌, ℕ, [], ◌∷◌, Option, Some, None, ◌∙◌, refl, ap, subst, sym}
use Rattle.model_value.specs.Value.{Nothing}
use Rattle.model_value.specs.declared.outcome.Outcome.TheVariants.{Value as Returned}
use Rattle.model_stream.specs.Doing.{Settle}
use Rattle.model_stream.specs.Reading.{Reading}
use Rattle.model_stream.specs.Receivers.{Receiver, wakes}
use Rattle.aio_exchange.specs.Tells.{Tells}
use Rattle.aio_exchange.specs.Ways.{Did}
use Rattle.aio_change.specs.View.{View}
use Rattle.aio_change.specs.Seen.{seen_changed}
use Rattle.aio_receiver.specs.Woken.{seen_woken}

woken_by : (reader : Reading) (waiter : Option ℕ) (old new : View) → new ≡ seen_woken waiter old
    → Tells seen_changed (wakes reader waiter) old new (record { reader = reader; waiter = None })
woken_by reader None old new parts = record { way = []; asks_none = refl; leads = refl; parts = parts }
woken_by reader (Some future) old new parts =
    record { way = Did (Settle future (Returned Nothing)) ∷ []; asks_none = refl; leads = (refl, refl); parts = parts }

-- the reader changed, and then the read that waits goes on
pub woken_after : (reader : Reading) (r between after : Receiver) (old new : View) → between ≡ record r { reader = reader }
    → after ≡ record between { waiter = None } → new ≡ seen_woken between.waiter old
    → Tells seen_changed (wakes reader r.waiter) old new after
woken_after reader r between after old new is e parts =
    let after_is : after ≡ record { reader = reader; waiter = None } = e ∙ ap (λ (m : Receiver). record m { waiter = None }) is in
    subst (Tells seen_changed (wakes reader r.waiter) old new) (sym after_is)
    (woken_by reader r.waiter old new (parts ∙ ap (λ (m : Receiver). seen_woken m.waiter old) is))
