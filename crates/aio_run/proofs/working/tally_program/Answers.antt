use Rattle.std.proofs.Common.{◌∙◌, ap, codes, Some}
use Rattle.std.proofs.lemmas.Result.{IfOk-weaker}
use Rattle.aio_wire.specs.Shelved.{Shelved, held, with_appended}
use Rattle.aio_run.proofs.working.tally_program.Goals as goal

pub returns : goal.returns
returns c =
    let journal = c.args.journal.now in
    let name = codes "journal" in
    IfOk-weaker c.tally_over.result _ _ (λ tally it.
    it journal (ap (λ (s : Shelved). Some (held s name))
    (c.in_ok-_took.ensures.after ∙ ap (λ (s : Shelved). record s { files = with_appended s.files name journal }) c.new-shelf.ensures)))
    c.tally_over.ensures
