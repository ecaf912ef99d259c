use Rattle.std.proofs.Common.{◌≡◌, ◌+◌, ◌-◌, ◌≤◌, length, ◌∷◌, take, drop, map, reverse, ap, sym, ◌∙◌, arith}
use Rattle.std.specs.Prelude.{slice_range}
use Rattle.script_term.specs.Spelled.{plain_numbered}
use Rattle.script_naming.specs.Parts.{plain_part, plain_parts}
use Rattle.script_naming.proofs.Parting.{parts_in, range-before, parts-before, parts-headed, plain_parts-reverse}
use Rattle.script_naming.proofs.part.parts_of.Goals as goal

pub loop-at-preserved-in_default : goal.loop-at-preserved-in_default
loop-at-preserved-in_default c =
    let forms = c.args.forms.now in
    let at = c.loop-at.at in
    let end = c.loop-at.end in
    let i = c.loop-at.invariant in
    let head = c.index-forms-at.result in
    let some = c.loop-at-test.true in
    let within : at ≤ length forms = omega (arith, i.in_range, i.inside) in
    let before = parts-before forms at head some within c.index-forms-at.is ∙ c.in_default.ensures.none (parts_in (drop at forms)) in
    record {
      in_range = omega (arith, i.in_range);
      inside = i.inside;
      front = ap (λ parts. parts.front) before ∙ ap (λ lines. plain_numbered head ∷ lines) i.front
          ∙ sym (ap (λ l. map plain_numbered l) (range-before forms at end head some i.in_range i.inside c.index-forms-at.is));
      coroutines = ap (λ parts. parts.coroutines) before ∙ i.coroutines;
    }

pub loop-at-preserved : goal.loop-at-preserved
loop-at-preserved c =
    let forms = c.args.forms.now in
    let at = c.loop-at.at in
    let end = c.loop-at.end in
    let i = c.loop-at.invariant in
    let head = c.index-forms-at.result in
    let some = c.loop-at-test.true in
    let part = c.in-Some.part in
    let within : at ≤ length forms = omega (arith, i.in_range, i.inside) in
    let next : at ≡ at - 1 + 1 = omega (arith, some) in
    let none : 0 ≡ (at - 1) - (at - 1) = omega arith in
    let lines = slice_range forms (at - 1 + 1) end in
    let front = i.front ∙ ap (λ n. map plain_numbered (slice_range forms n end)) next in
    let before =
    parts-before forms at head some within c.index-forms-at.is
    ∙ parts-headed head lines (parts_in (drop at forms)) part front c.in-Some.ensures.part in
    record {
      in_range = omega arith;
      inside = omega (arith, within);
      front = ap (λ parts. parts.front) before ∙ ap (λ n. map plain_numbered (take n (drop (at - 1) forms))) none;
      coroutines =
          ap (λ parts. parts.coroutines) before
          ∙ ap (λ others. plain_part part ∷ others) i.coroutines
          ∙ plain_parts-reverse c.loop-at.parts.items part
          ∙ ap (λ l. plain_parts (reverse l)) (sym c.in_ok-push.ensures.items);
    }
