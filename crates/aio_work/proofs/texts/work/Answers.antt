use Rattle.std.proofs.Common.{◌++◌, ap, sym, ◌∙◌}
use Rattle.model_text.specs.Scripts.{script_of}
use Rattle.model_wire.specs.JournalText.{entries_of}
use Rattle.model_work.specs.Work.{script, journal}
use Rattle.law_journal.proofs.Texts.{program-written}
use Rattle.law_journal.proofs.Scripts.{script-read}
use Rattle.law_journal.proofs.WorkJournals.{entries-of-journal}
use Rattle.aio_work.proofs.texts.work.Goals as goal

pub returns-clause-accepted : goal.returns-clause-accepted
returns-clause-accepted c =
    ap script_of (c.in_ok-push_script.ensures ∙ ap (λ text. text ++ script c.args.seed) c.new-script.ensures.items) ∙ script-read c.args.seed

pub returns-clause-canonical : goal.returns-clause-canonical
returns-clause-canonical c =
    program-written c.args.seed ∙ sym (c.in_ok-push_script.ensures ∙ ap (λ text. text ++ script c.args.seed) c.new-script.ensures.items)

pub returns-clause-read : goal.returns-clause-read
returns-clause-read c =
    ap entries_of (c.in_ok-push_journal.ensures ∙ ap (λ text. text ++ journal) c.new-journal.ensures.items) ∙ entries-of-journal
