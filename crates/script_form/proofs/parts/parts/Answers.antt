use Rattle.std.proofs.Common.{◌++◌, ◌-◌, ◌+◌, ◌≤◌, map, take, drop, sym, ap, ◌∙◌, arith}
use Rattle.std.proofs.lemmas.List.{map-append}
use Rattle.model_text.specs.Cutting.{depth_behind}
use Rattle.script_term.specs.Lexeme.{plain_lexeme}
use Rattle.script_form.specs.Parts.{plain_part}
use Rattle.script_form.proofs.PartLemmas.{slots, fronted, part_ends, part_goes_on, part_ended, depth_behind-le}
use Rattle.script_form.proofs.parts.parts.Goals as goal
use Rattle.script_form.proofs.parts.parts.Goals.{then-is_cut+in_ok-push, else-is_cut}

pub loop-at-preserved : goal.loop-at-preserved
loop-at-preserved c =
    let all = c.args.lexemes.now in
    let l = c.loop-at in
    let lexeme = c.index-lexemes-at.result in
    let part = map plain_lexeme (take (l.at - l.start) (drop l.start all)) in
    let depth = depth_behind l.depth (plain_lexeme lexeme) in
    let rest = map plain_lexeme (drop (l.at + 1) all) in
    let deep : depth ≤ l.at + 1 = omega (arith, depth_behind-le l.depth (plain_lexeme lexeme), l.invariant.deep) in
    elim c.if-is_cut.branch [
      | then-is_cut+in_ok-push w ↦
          rw (w.parts-is, w.start-is, c.depth_behind-depth.ensures) (record {
            within = omega arith;
            deep = deep;
            cut =
                l.invariant.cut
                ∙ ap (λ xs. map plain_part l.parts.items ++ xs)
                (part_ends all part l.at l.depth lexeme c.loop-at-test.true c.index-lexemes-at.is (sym c.is_cut.ensures ∙ w.if-is_cut.true))
                ∙ part_ended (map plain_part l.parts.items) part all (l.at + 1) depth rest
                ∙ ap (λ done. done ++ fronted (map plain_lexeme (take (l.at + 1 - (l.at + 1)) (drop (l.at + 1) all))) (slots depth rest))
                (sym (ap (map plain_part) w.in_ok-push.ensures.items ∙ map-append plain_part l.parts.items _));
          })
      | else-is_cut w ↦
          rw (w.parts-is, w.start-is, c.depth_behind-depth.ensures) (record {
            within = omega (arith, l.invariant.within);
            deep = deep;
            cut =
                l.invariant.cut
                ∙ ap (λ xs. map plain_part l.parts.items ++ xs)
                (part_goes_on all l.start l.at l.depth lexeme l.invariant.within c.loop-at-test.true c.index-lexemes-at.is
                (sym c.is_cut.ensures ∙ w.if-is_cut.false));
          })
    ]
