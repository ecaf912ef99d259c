use Rattle.std.proofs.Common.{◌≡◌, sym, ap, ◌∙◌}
use Rattle.model_wire.specs.JournalText.{answer_of}
use Rattle.aio_journal.specs.Steps.{tokens_after, answer_after, answer_at}
use Rattle.aio_journal.proofs.Reading.{answers-step}
use Rattle.aio_journal.proofs.answers.read_answer.Goals as goal

pub returns : goal.returns
returns c =
    let old = c.args.words.now in
    let taken = rw c.in-Some.is at c.in_ok-word.ensures.takes in
    let e : answer_after c.in-Some.word c.next_word.new.words ≡ answer_of old =
    ap (answer_after c.in-Some.word) taken.1 ∙ sym (answers-step old ∙ ap (λ known. answer_at known (tokens_after old)) taken.0) in
    rw (← e) c.read_after.ensures
