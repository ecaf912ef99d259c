use Rattle.std.proofs.Common.{sym, subst, ◌∙◌}
use Rattle.model_exec.specs.Serving.{told}
use Rattle.aio_exec.specs.Seen.{CallsSeen, kept_of}
use Rattle.aio_exec.proofs.Seeing.{told_over}
use Rattle.aio_exec.proofs.exec.Exec.told.Goals as goal

pub returns-in_default-end : goal.returns-in_default-end
returns-in_default-end c =
    let a = c.args in
    let x = kept_of a.self.now in
    subst (λ o. CallsSeen (record x { accepted = c.end.new.self.accepted; going = c.end.new.self.going }) a.parts.now a.parts.now (told o x))
    (sym c.in-Some.ensures)
    (told_over x a.parts.now c.in-Some.number c.in-Some.told.now c.end.new.self c.end.ensures.after (sym c.end.ensures.place ∙ c.in_default-end.is))
