-- The total so far grows by the member's weight, up to the cap.
use Rattle.std.proofs.Common.{◌≡◌, ◌+◌, ◌++◌, [], ◌∷◌, take, ap, sym, ◌∙◌, arith}
use Rattle.std.proofs.lemmas.List.{take_more}
use Rattle.model_value.specs.Value.{excs}
use Rattle.model_value.specs.Weight.{exc_weight, members_weight}
use Rattle.law_value.proofs.Weights.{members_weight-push}
use Rattle.aio_base.proofs.weigh.weight_of_members.Goals as goal

pub loop-member-preserved : goal.loop-member-preserved
loop-member-preserved c =
    let l = c.loop-member in
    let front = take l.member-index c.args.members.now in
    let member = c.member-item.result in
    let more : take (l.member-index + 1) c.args.members.now ≡ front ++ member ∷ [] =
    take_more c.args.members.now l.member-index member c.loop-member-test.true ∙ ap (λ x. front ++ x ∷ []) (sym c.member-item.is) in
    let grown : members_weight (excs (take (l.member-index + 1) c.args.members.now)) ≡ members_weight (excs front) + exc_weight member =
    ap (λ es. members_weight (excs es)) more ∙ members_weight-push front member in
    omega arith
