use Rattle.std.proofs.Common.{◌≡◌, IfOk, ◌∙◌, sym, subst}
use Rattle.aio_opened.proofs.Words.{words_texts}
use Rattle.aio_opened.proofs.texts.words_among.Goals as goal

pub returns : goal.returns
returns c =
    subst (λ those. IfOk c.texts_of.result (λ words. words ≡ those))
    (words_texts c.args.items.now (sym c.is_empty.ensures ∙ c.if-is_empty.false)) c.texts_of.ensures
