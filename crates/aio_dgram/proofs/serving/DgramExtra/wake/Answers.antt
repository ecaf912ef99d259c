use Rattle.std.proofs.lemmas.Result.{IfOk-weaker}
use Rattle.aio_dgram.proofs.Lifting.{free_serve, idle, tidy_serve, wakes_at}
use Rattle.aio_dgram.proofs.serving.DgramExtra.wake.Goals as goal

pub woken-requires-clause-idle : goal.woken-requires-clause-idle
woken-requires-clause-idle c = idle c.args.parts.now.running c.args.self.now c.args.parts.now c.requires.serves

pub woken-requires-clause-free : goal.woken-requires-clause-free
woken-requires-clause-free c = free_serve c.args.parts.now.running c.args.self.now c.args.parts.now c.requires.serves

pub woken-requires-clause-tidy : goal.woken-requires-clause-tidy
woken-requires-clause-tidy c = tidy_serve c.args.parts.now.running c.args.self.now c.args.parts.now c.requires.serves

pub returns : goal.returns
returns c =
    let a = c.args in
    IfOk-weaker c.woken.result _ _
    (λ asked seen. λ t s h known made.
    wakes_at a.parts.now.running c.requires.runs t s a.self.now a.parts.now h a.key a.input known made c.place_of.result c.place_of.ensures
    c.woken.new.self c.woken.new.parts asked seen) c.woken.ensures
