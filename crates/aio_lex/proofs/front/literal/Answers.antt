-- A text is UTF-8.
use Rattle.std.proofs.Common.{◌+◌, take}
use Rattle.aio_lex.proofs.AsciiLemmas.{IsUtf8-text}
use Rattle.aio_lex.proofs.front.literal.Goals as goal

pub unwrap-requires : goal.unwrap-requires
unwrap-requires c =
    let inside = take c.in-Some.place c.args.bytes.now in
    c.from_utf8.ensures.succeeds
    (IsUtf8-text c.args.literal (c.args.column + c.match-literal.opening) inside c.in_ok-said.said.items c.in-OfText-literal.is c.in_ok-said.ensures)
