use Rattle.std.proofs.lemmas.Result.{IfOk-weaker}
use Rattle.aio_gather.proofs.Ran.{idle, wakes_at}
use Rattle.aio_gather.proofs.serving.GatherExtra.wake.Goals as goal

pub wake_at-requires : goal.wake_at-requires
wake_at-requires c = record { idle = idle c.args.parts.now.running c.args.self.now c.args.parts.now c.requires.serves }

pub returns : goal.returns
returns c =
    IfOk-weaker c.wake_at.result _ _
    (λ asked seen. λ t s h known made. wakes_at c.args.parts.now.running c.requires.runs t s c.args.self.now c.args.parts.now h c.args.key
    c.place_of-place.result c.place_of-place.ensures c.args.input known made c.wake_at.new.self c.wake_at.new.parts asked seen)
    c.wake_at.ensures
