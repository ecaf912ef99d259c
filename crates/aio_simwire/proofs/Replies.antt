-- What a reply that fits is to a wire that tells no content.
use Rattle.std.proofs.Common.{◌≡◌, Bool, true, Option, None, Result, Ok, Err, refl}
use Rattle.std.specs.Prelude.{IfOk}
use Rattle.aio_base.specs.declared.memory.Memory.{Memory}
use Rattle.model_wire.specs.Call.{Call}
use Rattle.model_wire.specs.Told.{Agrees}
use Rattle.aio_wire.specs.Replied.{Replied, FitsCall, EndsAs}
use Rattle.aio_wire.specs.declared.wire.Reply.{Reply}
use Rattle.aio_wire.specs.declared.wire.Reply.TheVariants as reply
use Rattle.aio_simwire.specs.Seen.{sim_seen, end_of, Speaks}

none_told : {A : Type 0} (actual : A) → Agrees None actual
none_told actual held is = absurd (cc)

replied : (call : Call) (old new : Bool) (given : Reply) → FitsCall true call given → EndsAs (end_of new) given → Speaks given
    → Replied call (sim_seen old) (sim_seen new) given
replied call old new (reply.Got said) fits ends speaks =
    record { left = λ rest held. none_told _; ends = tt; fits = fits; asked = refl; handed = refl; failed = tt }
replied call old new reply.Over fits ends speaks =
    record { left = (none_told _, λ rest held. none_told _); ends = ends; fits = tt; asked = refl; handed = refl; failed = tt }
replied call old new (reply.Bad fault) fits ends speaks = absurd speaks
replied call old new reply.Failed fits ends speaks = absurd speaks

pub if_replied : (call : Call) (old new : Bool) (said : Result Reply Memory) → IfOk said (FitsCall true call)
    → IfOk said (EndsAs (end_of new)) → IfOk said Speaks → IfOk said (Replied call (sim_seen old) (sim_seen new))
if_replied call old new (Ok given) fits ends speaks = replied call old new given fits ends speaks
if_replied call old new (Err memory) fits ends speaks = tt
