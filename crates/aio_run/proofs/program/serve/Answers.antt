use Rattle.std.proofs.Common.{◌≡◌, Option, Some, map, string_bytes, refl, subst}
use Rattle.model_wire.specs.Told.{NoneFailed}
use Rattle.model_words.specs.Words.{Command, Work, command_of}
use Rattle.model_program.specs.Program.{words_refused}
use Rattle.model_commands.specs.Outputs.{IsUnbegun, KeepsFiles, KeepsWire, MayWrite}
use Rattle.model_commands.specs.Works.{MayWork}
use Rattle.aio_run.specs.Running.{between, told_by}
use Rattle.aio_run.proofs.Writing.{line_written, writes_for, writes_wider}
use Rattle.aio_run.proofs.program.serve.Goals as goal

-- ---- refused words
pub returns-in-None-clause-written : goal.returns-in-None-clause-written
returns-in-None-clause-written g c =
    let shelf = g.F.Shelf.seen c.args.shelf.now in
    let wire = g.W.Wire.outside.seen c.args.wire.now in
    let it = told_by c.say.result (between shelf shelf wire wire) (c.args.wire.now ≡ c.args.wire.now) (g.W.Wire.outside.fails c.args.wire.now) in
    let asked = command_of (map string_bytes c.args.words.now) in
    line_written (MayWrite it asked) (IsUnbegun it asked) words_refused
    (subst (λ (o : Option Command). MayWrite it o words_refused) c.in-None.ensures.command (refl, refl)) _ refl
    (g.K.Sink.seen c.args.out.now) (g.K.Sink.seen c.say.new.out) c.say.result c.say.ensures.ok c.say.ensures.err

pub returns-in-None-clause-files : goal.returns-in-None-clause-files
returns-in-None-clause-files g c =
    let shelf = g.F.Shelf.seen c.args.shelf.now in
    subst (λ (o : Option Command). KeepsFiles o shelf shelf) c.in-None.ensures.command refl

pub returns-in-None-clause-wire : goal.returns-in-None-clause-wire
returns-in-None-clause-wire g c =
    subst (λ (o : Option Command). KeepsWire o (g.F.Shelf.seen c.args.shelf.now) c.args.wire.now c.args.wire.now) c.in-None.ensures.command refl

-- ---- works
pub returns-in-Some-Work-clause-written : goal.returns-in-Some-Work-clause-written
returns-in-Some-Work-clause-written g c =
    let shelf = g.F.Shelf.seen c.args.shelf.now in
    let wire = g.W.Wire.outside.seen c.args.wire.now in
    let it = told_by c.work.result (between shelf shelf wire wire) (c.args.wire.now ≡ c.args.wire.now) (g.W.Wire.outside.fails c.args.wire.now) in
    let found = rw c.in-Some-Work.field-0-is at c.in-Some-Work.ensures.command in
    let seed = c.in-Some-Work.seed in
    let old = g.K.Sink.seen c.args.out.now in
    let new = g.K.Sink.seen c.work.new.out in
    writes_for it _ _ found old new c.work.result
    (writes_wider (MayWork seed) (MayWrite it (Some (Work seed))) (Unit {0}) (NoneFailed shelf shelf) (λ output may. (refl, may)) (λ none. refl)
    old new c.work.result c.work.ensures)

pub returns-in-Some-Work-clause-files : goal.returns-in-Some-Work-clause-files
returns-in-Some-Work-clause-files g c =
    let shelf = g.F.Shelf.seen c.args.shelf.now in
    let found = rw c.in-Some-Work.field-0-is at c.in-Some-Work.ensures.command in
    subst (λ (o : Option Command). KeepsFiles o shelf shelf) found refl

pub returns-in-Some-Work-clause-wire : goal.returns-in-Some-Work-clause-wire
returns-in-Some-Work-clause-wire g c =
    let found = rw c.in-Some-Work.field-0-is at c.in-Some-Work.ensures.command in
    subst (λ (o : Option Command). KeepsWire o (g.F.Shelf.seen c.args.shelf.now) c.args.wire.now c.args.wire.now) found refl

-- ---- checks
pub returns-in-Some-Check-clause-written : goal.returns-in-Some-Check-clause-written
returns-in-Some-Check-clause-written g c =
    let wire = g.W.Wire.outside.seen c.args.wire.now in
    let seen = between (g.F.Shelf.seen c.args.shelf.now) (g.F.Shelf.seen c.check.new.shelf) wire wire in
    let found = rw c.in-Some-Check.field-0-is at c.in-Some-Check.ensures.command in
    writes_for (told_by c.check.result seen (c.args.wire.now ≡ c.args.wire.now) (g.W.Wire.outside.fails c.args.wire.now)) _ _ found
    (g.K.Sink.seen c.args.out.now) (g.K.Sink.seen c.check.new.out) c.check.result c.check.ensures.written

pub returns-in-Some-Check-clause-files : goal.returns-in-Some-Check-clause-files
returns-in-Some-Check-clause-files g c =
    let found = rw c.in-Some-Check.field-0-is at c.in-Some-Check.ensures.command in
    subst (λ (o : Option Command). KeepsFiles o (g.F.Shelf.seen c.args.shelf.now) (g.F.Shelf.seen c.check.new.shelf)) found c.check.ensures.files

pub returns-in-Some-Check-clause-wire : goal.returns-in-Some-Check-clause-wire
returns-in-Some-Check-clause-wire g c =
    let found = rw c.in-Some-Check.field-0-is at c.in-Some-Check.ensures.command in
    subst (λ (o : Option Command). KeepsWire o (g.F.Shelf.seen c.args.shelf.now) c.args.wire.now c.args.wire.now) found refl

-- ---- replays
pub returns-in-Some-Replay-clause-written : goal.returns-in-Some-Replay-clause-written
returns-in-Some-Replay-clause-written g c =
    let wire = g.W.Wire.outside.seen c.args.wire.now in
    let seen = between (g.F.Shelf.seen c.args.shelf.now) (g.F.Shelf.seen c.replay.new.shelf) wire wire in
    let found = rw c.in-Some-Replay.field-0-is at c.in-Some-Replay.ensures.command in
    writes_for (told_by c.replay.result seen (c.args.wire.now ≡ c.args.wire.now) (g.W.Wire.outside.fails c.args.wire.now)) _ _ found
    (g.K.Sink.seen c.args.out.now) (g.K.Sink.seen c.replay.new.out) c.replay.result c.replay.ensures.written

pub returns-in-Some-Replay-clause-files : goal.returns-in-Some-Replay-clause-files
returns-in-Some-Replay-clause-files g c =
    let found = rw c.in-Some-Replay.field-0-is at c.in-Some-Replay.ensures.command in
    subst (λ (o : Option Command). KeepsFiles o (g.F.Shelf.seen c.args.shelf.now) (g.F.Shelf.seen c.replay.new.shelf)) found c.replay.ensures.files

pub returns-in-Some-Replay-clause-wire : goal.returns-in-Some-Replay-clause-wire
returns-in-Some-Replay-clause-wire g c =
    let found = rw c.in-Some-Replay.field-0-is at c.in-Some-Replay.ensures.command in
    subst (λ (o : Option Command). KeepsWire o (g.F.Shelf.seen c.args.shelf.now) c.args.wire.now c.args.wire.now) found refl

-- ---- runs
pub returns-in-Some-Run-clause-written : goal.returns-in-Some-Run-clause-written
returns-in-Some-Run-clause-written g c =
    let before = g.W.Wire.outside.seen c.args.wire.now in
    let after = g.W.Wire.outside.seen c.run.new.wire in
    let seen = between (g.F.Shelf.seen c.args.shelf.now) (g.F.Shelf.seen c.run.new.shelf) before after in
    let found = rw c.in-Some-Run.field-0-is at c.in-Some-Run.ensures.command in
    writes_for (told_by c.run.result seen (c.run.new.wire ≡ c.args.wire.now) (g.W.Wire.outside.fails c.args.wire.now)) _ _ found
    (g.K.Sink.seen c.args.out.now) (g.K.Sink.seen c.run.new.out) c.run.result c.run.ensures.written

pub returns-in-Some-Run-clause-files : goal.returns-in-Some-Run-clause-files
returns-in-Some-Run-clause-files g c =
    let found = rw c.in-Some-Run.field-0-is at c.in-Some-Run.ensures.command in
    subst (λ (o : Option Command). KeepsFiles o (g.F.Shelf.seen c.args.shelf.now) (g.F.Shelf.seen c.run.new.shelf))
    found c.run.ensures.files

pub returns-in-Some-Run-clause-wire : goal.returns-in-Some-Run-clause-wire
returns-in-Some-Run-clause-wire g c =
    let found = rw c.in-Some-Run.field-0-is at c.in-Some-Run.ensures.command in
    subst (λ (o : Option Command). KeepsWire o (g.F.Shelf.seen c.args.shelf.now) c.args.wire.now c.run.new.wire) found c.run.ensures.wire
