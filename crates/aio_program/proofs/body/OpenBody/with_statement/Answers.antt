use Rattle.std.proofs.Common.{◌≡◌, ◌∷◌, ◌++◌, option_to_list, sym, ap, ◌∙◌, append-nil}
use Rattle.aio_program.specs.Body.{SectionRest, rest, around_all}
use Rattle.aio_program.proofs.BlockLemmas.{rest-stands}
use Rattle.aio_program.proofs.body.OpenBody.with_statement.Goals as goal
use Rattle.aio_program.proofs.body.OpenBody.with_statement.Goals.{in-Some+in_ok-push, in_default}

pub returns : goal.returns
returns c =
    let old = c.args.self.so_far.items in
    let pushed : c.match-statement.so_far.items ≡ old ++ option_to_list c.args.statement =
    elim c.match-statement.branch [
      | in-Some+in_ok-push w ↦ simp (w.so_far-is, w.in_ok-push.ensures.items, w.in-Some.is)
      | in_default w ↦ simp (w.so_far-is, w.in_default.is, append-nil)
    ] in
    λ line lines stands statement.
    let same : rest c.match-statement.so_far.items lines ≡ rest old (line ∷ lines) =
    ap (λ so_far. rest so_far lines) (pushed ∙ ap (λ s. old ++ option_to_list s) (sym statement)) ∙ sym (rest-stands line stands old lines) in
    ap (λ (inner : SectionRest). (around_all c.args.self.blocks.items inner).body) same
