use Rattle.std.proofs.Common.{◌≡◌, ◌+◌, ◌++◌, ap, ◌∙◌, append_assoc, add-one}
use Rattle.std.specs.List.{repeat}
use lib.Chars.{codes}
use Rattle.script_canonical.proofs.Joined.{repeat-push}
use Rattle.script_canonical.proofs.block.push_indentation.Goals as goal

pub loop-block-preserved : goal.loop-block-preserved
loop-block-preserved c =
    let l = c.loop-block in
    let more : repeat (l.block + 1) (codes "  ") ≡ repeat l.block (codes "  ") ++ codes "  " =
    ap (λ n. repeat n (codes "  ")) (add-one l.block) ∙ repeat-push l.block (codes "  ") in
    rw more (simp (c.in_ok-extend_from_slice.ensures.items, l.invariant, append_assoc))
