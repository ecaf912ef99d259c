use Rattle.std.proofs.Common.{◌≡◌, ◌∷◌, ◌+◌, ◌-◌, ◌<◌, length, map, reverse, take, vec_len, refl, ap, sym, ◌∙◌, arith, rules}
use Rattle.std.proofs.Math.Dec.{eqb-suc-zero}
use Rattle.model_text.specs.Places.{open_blocks}
use Rattle.script_form.specs.Blocks.{kept, plain_open, plain_role, plain_section}
use Rattle.script_form.proofs.PlaceLemmas.{last_split, set_last, section_begins, no_section_begins, block_closes}
use Rattle.script_form.proofs.places.Places.add.Goals as goal

pub returns-in-Some : goal.returns-in-Some
returns-in-Some c = λ roles behind.
    let blocks = c.args.self.now.blocks in
    let last = c.in-Some.innermost.now in
    let n = vec_len blocks - 1 in
    let some : 0 < vec_len blocks = c.in-Some.ensures.variant.0 refl in
    let all : n + 1 ≡ length blocks.items = omega (arith, blocks.ok.0) in
    let e = sym (ap (λ all. reverse (map plain_open all)) (last_split blocks.items n last all c.in-Some.ensures.value)) ∙ behind.blocks in
    record {
      first = sym (eqb-suc-zero (length roles));
      blocks =
          ap (λ all. reverse (map plain_open all)) (set_last blocks.items n last _ all c.in-Some.ensures.value)
          ∙ section_begins (take n blocks.items) last c.in-Begins.section roles e
          ∙ ap (λ role. map kept (open_blocks (plain_role role ∷ roles))) (sym c.in-Begins.is);
    }

pub returns-in_default : goal.returns-in_default
returns-in_default c = λ roles behind. record {
  first = sym (eqb-suc-zero (length roles));
  blocks =
      no_section_begins c.args.self.now.blocks.items (plain_section c.in-Begins.section) roles (search rules) behind.blocks
      ∙ ap (λ role. map kept (open_blocks (plain_role role ∷ roles))) (sym c.in-Begins.is);
}

pub returns-in-Closes : goal.returns-in-Closes
returns-in-Closes c = λ roles behind. record {
  first = sym (eqb-suc-zero (length roles));
  blocks =
      block_closes c.args.self.now.blocks.items c.pop.new.self.items c.pop.result roles c.pop.ensures.items (search rules) behind.blocks
      ∙ ap (λ role. map kept (open_blocks (plain_role role ∷ roles))) (sym c.in-Closes.is);
}
