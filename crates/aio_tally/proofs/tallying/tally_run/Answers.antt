use Rattle.aio_tally.proofs.tallying.tally_run.Goals as goal

pub returns-in-Ok : goal.returns-in-Ok
returns-in-Ok g c = λ kept nothing. c.tally_kernel-tallied.ensures kept c.args.program.now (c.in-Ok.ensures kept nothing)
