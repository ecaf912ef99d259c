use Rattle.std.proofs.Common.{◌∙◌, sym}
use Rattle.aio_body.proofs.Words.{words_so}
use Rattle.aio_body.proofs.arguments.are_words.Goals as goal

pub returns-then-not-is_empty : goal.returns-then-not-is_empty
returns-then-not-is_empty c = c.are_texts.ensures ∙ words_so c.args.items.now (sym c.is_empty.ensures ∙ c.if-not-is_empty.true)
