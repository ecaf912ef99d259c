use Rattle.std.proofs.Common.{◌≡◌, ℕ, ◌+◌, ◌*◌, ◌%◌, List, ◌++◌, flat_map, ap, sym, ◌∙◌, arith}
use Rattle.model_work.specs.Work.{delay, numbers_from, create_text}
use Rattle.aio_work.proofs.Numbered.{pieces-none, pieces-next, draw-next}
use Rattle.aio_work.proofs.script.push_creating.Goals as goal

pub loop-made-preserved : goal.loop-made-preserved
loop-made-preserved c =
    let seed = c.args.seed in
    let made = c.loop-made.made in
    let i = c.loop-made.invariant in
    let piece : ℕ → List ℕ = λ task. create_text task (delay seed task) in
    let task : made + 1 ≡ 1 + made = omega arith in
    let drawn = c.next_draw-number.ensures.next ∙ (ap (λ n. n * 48271 % 2147483647) i.drawn ∙ sym (draw-next seed (made + 1))) in
    record {
      drawn = drawn;
      below = c.next_draw-number.ensures.below;
      text = c.in_ok-push_create.ensures
          ∙ (ap (λ text. text ++ create_text (made + 1) (c.next_draw-number.result % 1000)) i.text
          ∙ (ap (λ n. (c.args.out.now.items ++ flat_map piece (numbers_from 1 made)) ++ create_text (made + 1) (n % 1000)) drawn
          ∙ pieces-next piece 1 made (made + 1) c.args.out.now.items task));
    }

pub loop-made-init : goal.loop-made-init
loop-made-init c = record {
  drawn = c.first_draw-number.ensures.first;
  below = c.first_draw-number.ensures.below;
  text = pieces-none (λ task. create_text task (delay c.args.seed task)) 1 c.args.out.now.items;
}
