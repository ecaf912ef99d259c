-- The depth so far becomes the member's where that is greater.
use Rattle.std.proofs.Common.{◌≡◌, ◌+◌, ◌++◌, [], ◌∷◌, take, ap, sym, ◌∙◌, max, arith}
use Rattle.std.proofs.lemmas.List.{take_more}
use Rattle.model_value.specs.Value.{excs}
use Rattle.model_value.specs.Depth.{exc_depth, members_depth}
use Rattle.law_value.proofs.Depths.{members_depth-push}
use Rattle.aio_base.proofs.nesting.depth_of_members.Goals as goal

pub loop-member-preserved : goal.loop-member-preserved
loop-member-preserved c =
    let l = c.loop-member in
    let front = take l.member-index c.args.members.now in
    let member = c.member-item.result in
    let more : take (l.member-index + 1) c.args.members.now ≡ front ++ member ∷ [] =
    take_more c.args.members.now l.member-index member c.loop-member-test.true ∙ ap (λ x. front ++ x ∷ []) (sym c.member-item.is) in
    let grown : members_depth (excs (take (l.member-index + 1) c.args.members.now)) ≡ max (members_depth (excs front)) (exc_depth member) =
    ap (λ es. members_depth (excs es)) more ∙ members_depth-push front member in
    omega arith
