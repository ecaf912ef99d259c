-- A word is ASCII.
use Rattle.aio_lex.proofs.AsciiLemmas.{IsAscii-word}
use Rattle.aio_lex.proofs.front.word.Goals as goal

pub ascii_text-requires : goal.ascii_text-requires
ascii_text-requires c = rw c.word_len-len.ensures (IsAscii-word c.args.rest.now)
