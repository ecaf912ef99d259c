use Rattle.std.proofs.Common.{◌≡◌, ◌+◌, ◌++◌, [], ◌∷◌, take, fold, ap, sym, ◌∙◌}
use Rattle.std.proofs.lemmas.List.{take_more}
use Rattle.model_says.specs.Variables.{with_name}
use Rattle.aio_flat.proofs.KnownLemmas.{fold-more}
use Rattle.aio_flat.proofs.variables.variables_of.Goals as goal

pub loop-name-preserved : goal.loop-name-preserved
loop-name-preserved c =
    let l = c.loop-name in
    let bound = c.deref-name-items.result.now in
    let front = take l.name-index bound in
    let name = c.name-item.result in
    let first = c.loop-parameter.names.items in
    let more : take (l.name-index + 1) bound ≡ front ++ name ∷ [] =
    take_more bound l.name-index name c.loop-name-test.true ∙ ap (λ x. front ++ x ∷ []) (sym c.name-item.is) in
    record {
      names =
          c.in_ok-add_name.ensures.names l.invariant.known
          ∙ ap (λ names. with_name names name) l.invariant.names
          ∙ sym (fold-more with_name first front name)
          ∙ ap (λ names. fold with_name first names) (sym more);
      known = c.in_ok-add_name.ensures.known l.invariant.known;
    }
