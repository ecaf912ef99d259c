use Rattle.std.proofs.Common.{Bool, ◌==◌, ◌||◌, not, length, ◌∙◌, refl, sym, ap}
use Rattle.aio_transports.proofs.Watches.{either_watched, since_list}
use Rattle.aio_transports.proofs.transports.Transports.is_watched.Goals as goal

pub returns-then-watches_remaining : goal.returns-then-watches_remaining
returns-then-watches_remaining c s h =
    let k = c.args.self.now in
    let b : Bool = not (length (since_list k s h) == 0) in
    c.if-watches_remaining.true ∙ sym (ap (λ a. a || b) c.if-watches_remaining.true)
    ∙ either_watched k s h c.watches_remaining.result b c.watches_remaining.ensures refl

pub returns-else-watches_remaining : goal.returns-else-watches_remaining
returns-else-watches_remaining c s h =
    let k = c.args.self.now in
    sym (ap (λ a. a || c.watches_since.result) c.if-watches_remaining.false)
    ∙ either_watched k s h c.watches_remaining.result c.watches_since.result c.watches_remaining.ensures c.watches_since.ensures
