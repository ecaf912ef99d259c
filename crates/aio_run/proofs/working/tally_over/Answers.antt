use Rattle.std.proofs.Common.{codes, Option, List, subst}
use Rattle.model_wire.specs.Journal.{Entry}
use Rattle.model_wire.specs.Told.{Agrees}
use Rattle.model_program.specs.Added.{first_added}
use Rattle.aio_memwire.specs.JournalWire.{seen_of_answers}
use Rattle.aio_run.proofs.Outcomes.{tallies_over, told_first, told_of_file}
use Rattle.aio_run.proofs.working.tally_over.Goals as goal

pub tally_run-requires : goal.tally_run-requires
tally_run-requires g c = record { fresh = ∣ (first_added, c.added.ensures) ∣₁ }

pub returns-in-Ok : goal.returns-in-Ok
returns-in-Ok g c = λ text is.
    let w = c.answering-wire.result in
    let seen = g.F.Shelf.seen in
    let name = codes "journal" in
    tallies_over c.args.program.now text (seen_of_answers (seen w.shelf.now) w.name.now w.own) c.in-Ok.tally (λ entries agrees.
    told_of_file ((seen c.args.shelf.now).file name) text entries is
    (subst (λ (t : Option (List Entry)). Agrees t entries)
    (told_first seen w.shelf.now c.args.shelf.now w.name.now name w.own.journal c.answering-wire.ensures.kept c.answering-wire.ensures.name
    c.answering-wire.ensures.unread) agrees)) (c.in-Ok.ensures first_added c.added.ensures)
