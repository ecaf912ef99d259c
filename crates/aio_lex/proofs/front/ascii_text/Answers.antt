-- ASCII is UTF-8.
use Rattle.std.proofs.Common.{arith}
use Rattle.std.proofs.lemmas.Grind.{common_steps}
use Rattle.std.proofs.lemmas.Str.{IsUtf8-from_ascii}
use Rattle.aio_lex.proofs.front.ascii_text.Goals as goal

pub unwrap-requires : goal.unwrap-requires
unwrap-requires c =
    let text = IsUtf8-from_ascii c.args.bytes.now c.requires in
    grind (arith, common_steps, c.from_utf8.ensures.cases)
