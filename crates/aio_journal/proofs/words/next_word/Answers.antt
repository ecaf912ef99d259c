use Rattle.std.proofs.Common.{◌≡◌, ◌-◌, ◌<◌, ◌∷◌, length, take, drop, sym, ap, ◌∙◌, arith}
use Rattle.std.proofs.Math.Seq.{take-length}
use Rattle.std.proofs.lemmas.List.{length-drop}
use Rattle.model_wire.specs.JournalText.{words_of}
use Rattle.aio_journal.proofs.Pieces.{first_word}
use Rattle.aio_journal.proofs.words.next_word.Goals as goal

pub returns : goal.returns
returns c =
    let text = c.without_spaces-text.result.now in
    let len = c.word_len-len.result in
    let some : 0 < len = omega (arith, c.if-len-eq0.false) in
    let rest : take (length text - len) (drop len text) ≡ drop len text =
    ap (λ n. take n (drop len text)) (sym (length-drop len text)) ∙ take-length (drop len text) in
    sym c.without_spaces-text.ensures.words ∙ first_word text len c.word_len-len.ensures.value some c.word_len-len.ensures.within
    ∙ ap (λ r. take len text ∷ words_of r) (sym rest)
