use Rattle.std.proofs.Common.{None, Some, drop}
use Rattle.aio_memwire.proofs.Newlines.{first_after, first_found, none_after, none_found, searched_rest}
use Rattle.aio_memwire.proofs.journal.newline_from.Goals as goal

pub returns-in-Some-clause-at : goal.returns-in-Some-clause-at
returns-in-Some-clause-at c =
    let text = c.args.text.now in
    let from = c.args.from in
    let at = c.in-Some.at in
    let first =
    first_after text from at c.requires.within c.requires.before (first_found (drop from text) at (searched_rest text from (Some at) c.in-Some.ensures)) in
    (first.within, first.before, first.is)

pub returns-in-None-clause-none : goal.returns-in-None-clause-none
returns-in-None-clause-none c = λ none.
    let text = c.args.text.now in
    let from = c.args.from in
    none_after text from c.requires.before (none_found (drop from text) (searched_rest text from None c.in-None.ensures))
