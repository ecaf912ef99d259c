use Rattle.std.proofs.Common.{ap, sym, ◌∙◌}
use Rattle.model_text.specs.Scripts.{script_of}
use Rattle.aio_run.proofs.Outcomes.{front_says}
use Rattle.aio_run.proofs.script.read_script.Goals as goal

pub returns-in-Ok-read-clause-script : goal.returns-in-Ok-read-clause-script
returns-in-Ok-read-clause-script g c =
    let says = front_says ((g.F.Shelf.seen c.args.shelf.now).file c.args.name.now) c.in-Ok.text.items c.in-Ok.ensures.text in
    (says.0, says.1, sym says.2 ∙ ap script_of (sym c.as_slice.ensures.value) ∙ c.in-Ok-read.ensures.program)

pub returns-in-Err-Refused-clause-none : goal.returns-in-Err-Refused-clause-none
returns-in-Err-Refused-clause-none g c =
    let says = front_says ((g.F.Shelf.seen c.args.shelf.now).file c.args.name.now) c.in-Ok.text.items c.in-Ok.ensures.text in
    let fault = rw c.in-Err-Refused.field-0-is at c.in-Err-Refused.ensures.fault in
    ((says.0, fault.0, says.1, sym says.2 ∙ ap script_of (sym c.as_slice.ensures.value) ∙ fault.1, fault.2), c.in-Ok.ensures.kept)
