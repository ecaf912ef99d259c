use Rattle.std.proofs.lemmas.Result.{IfOk-weaker}
use Rattle.aio_exec.proofs.Lifting.{idle, wakes_at}
use Rattle.aio_exec.proofs.serving.ExecExtra.wake.Goals as goal

pub woken-requires : goal.woken-requires
woken-requires c = record { idle = idle c.args.parts.now.running c.args.self.now c.args.parts.now c.requires.serves }

pub returns : goal.returns
returns c =
    let a = c.args in
    IfOk-weaker c.woken.result _ _
    (λ asked seen. λ t s h known made.
    wakes_at a.parts.now.running c.requires.runs t s a.self.now a.parts.now h a.key a.input known made c.place_of.result c.place_of.ensures
    c.woken.new.self c.woken.new.parts asked seen) c.woken.ensures
