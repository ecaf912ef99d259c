use Rattle.std.proofs.Common.{None, w64, subst}
use Rattle.std.proofs.lemmas.Int.{to_z-of_z}
use Rattle.std.proofs.lemmas.Result.{on_ok_weaker}
use Rattle.model_dgram.specs.Serving.{told}
use Rattle.aio_dgram.specs.Seen.{kept_of}
use Rattle.aio_dgram.specs.Woken.{CallsSeen}
use Rattle.aio_dgram.proofs.Lifting.{free_serve, hears_by, idle}
use Rattle.aio_dgram.proofs.serving.DgramExtra.item.Goals as goal

pub told-requires-clause-idle : goal.told-requires-clause-idle
told-requires-clause-idle c = idle None c.args.self.now c.args.parts.now c.requires.serves

pub told-requires-clause-free : goal.told-requires-clause-free
told-requires-clause-free c = free_serve None c.args.self.now c.args.parts.now c.requires.serves

pub returns : goal.returns
returns c =
    let a = c.args in
    on_ok_weaker c.told.result
    (λ seen. λ t s h.
    hears_by t s a.self.now a.parts.now h a.code a.bytes.now c.told.new.self c.told.new.parts
    (subst (λ n. CallsSeen (kept_of c.told.new.self) a.parts.now c.told.new.parts (told n a.bytes.now (kept_of a.self.now)))
    (to_z-of_z w64 a.code c.ranges.code) seen)) c.told.ensures
