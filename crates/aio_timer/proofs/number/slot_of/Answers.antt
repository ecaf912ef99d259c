use Rattle.std.proofs.Common.{rules}
use Rattle.std.proofs.lemmas.List.Sorted.{answers_always}
use Rattle.aio_timer.proofs.Searching.{found_at, none_found}
use Rattle.aio_timer.proofs.number.slot_of.Goals as goal

pub returns-in-Ok-clause-found : goal.returns-in-Ok-clause-found
returns-in-Ok-clause-found c =
    found_at c.args.numbers.now c.args.number c.in-Ok.at _ c.in-Ok.ensures.bound
    (c.in-Ok.ensures.position (λ pair. pair.0) (answers_always _ _ _ (λ f a r g called. search rules)))

pub returns-in-Err-clause-none : goal.returns-in-Err-clause-none
returns-in-Err-clause-none c = λ rising.
    none_found c.args.numbers.now rising c.args.number c.in-Err.field-0 c.in-Err.ensures.bound
    (c.in-Err.ensures.position (λ pair. pair.0) (answers_always _ _ _ (λ f a r g called. search rules)))
