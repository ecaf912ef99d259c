use Rattle.std.proofs.Common.{◌≡◌, ◌∙◌, refl}
use Rattle.std.specs.Option.{option_copied}
use Rattle.model_commands.specs.Asked.{AsksOnce}
use Rattle.model_commands.specs.Outputs.{MayRun, MayRunOver}
use Rattle.aio_run.specs.Running.{between, pace_of, told_by}
use Rattle.aio_run.specs.Script.{Tells}
use Rattle.aio_run.specs.declared.script.NoScript.TheVariants.{Memory}
use Rattle.aio_run.proofs.WireRuns.{never_spelled, once-none, others_from, others_same, run_by_script, run_without, unread}
use Rattle.aio_run.proofs.Writing.{writes_wider}
use Rattle.aio_run.proofs.running.run.Goals as goal

pub returns-in-Ok-clause-written : goal.returns-in-Ok-clause-written
returns-in-Ok-clause-written g c =
    let old = g.F.Shelf.seen c.args.shelf.now in
    let mid = g.F.Shelf.seen c.read_script.new.shelf in
    let new = g.F.Shelf.seen c.run_program.new.shelf in
    let before = g.W.Wire.outside.seen c.args.wire.now in
    let after = g.W.Wire.outside.seen c.run_program.new.wire in
    let same = c.run_program.new.wire ≡ c.args.wire.now in
    let fails = g.W.Wire.outside.fails c.args.wire.now in
    let pace = pace_of (option_copied c.args.journal) c.args.manner in
    let result = c.run_program.result in
    writes_wider (MayRun (told_by result (between mid new before after) same fails) c.in-Ok.program pace)
    (MayRunOver (told_by result (between old new before after) same fails) c.args.script.now pace)
    ((new ≡ mid) × AsksOnce before after) ((new ≡ old) × AsksOnce before after)
    (run_by_script c.in-Ok.program old mid new before after c.args.script.now same fails result pace c.in-Ok.ensures.script c.in-Ok.ensures.kept)
    (λ unbegun. (unbegun.0 ∙ c.in-Ok.ensures.kept, unbegun.1))
    (g.K.Sink.seen c.args.out.now) (g.K.Sink.seen c.run_program.new.out) result c.run_program.ensures.written

pub returns-in-Ok-clause-files : goal.returns-in-Ok-clause-files
returns-in-Ok-clause-files g c =
    others_from (option_copied c.args.journal) (g.F.Shelf.seen c.args.shelf.now) (g.F.Shelf.seen c.read_script.new.shelf)
    (g.F.Shelf.seen c.run_program.new.shelf) c.in-Ok.ensures.kept c.run_program.ensures.files

pub returns-in-Err-clause-written : goal.returns-in-Err-clause-written
returns-in-Err-clause-written g c =
    let old = g.F.Shelf.seen c.args.shelf.now in
    let new = g.F.Shelf.seen c.read_script.new.shelf in
    let seen = g.W.Wire.outside.seen c.args.wire.now in
    let same = c.args.wire.now ≡ c.args.wire.now in
    let fails = g.W.Wire.outside.fails c.args.wire.now in
    let pace = pace_of (option_copied c.args.journal) c.args.manner in
    let none = c.in-Err.none in
    let missing = c.in-Err.ensures.none in
    let result = c.refuse.result in
    writes_wider (Tells none) (MayRunOver (told_by result (between old new seen seen) same fails) c.args.script.now pace)
    (none ≡ Memory) ((new ≡ old) × AsksOnce seen seen)
    (run_without none old new seen c.args.script.now same fails refl result pace missing c.read_script.ensures.files)
    (λ is. (unread none old new c.args.script.now missing is, once-none seen))
    (g.K.Sink.seen c.args.out.now) (g.K.Sink.seen c.refuse.new.out) result c.refuse.ensures

pub returns-in-Err-clause-files : goal.returns-in-Err-clause-files
returns-in-Err-clause-files g c =
    others_same (option_copied c.args.journal) (g.F.Shelf.seen c.args.shelf.now) (g.F.Shelf.seen c.read_script.new.shelf) c.read_script.ensures.files

pub returns-in-Ok-clause-wire : goal.returns-in-Ok-clause-wire
returns-in-Ok-clause-wire g c = λ none.
    absurd (never_spelled ((g.F.Shelf.seen c.args.shelf.now).file c.args.script.now) c.in-Ok.program c.in-Ok.ensures.script none)
