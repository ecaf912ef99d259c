use Rattle.std.proofs.Common.{◌≡◌, ◌+◌, ◌++◌, [], ◌∷◌, take, ap, sym, ◌∙◌, append_assoc}
use Rattle.std.specs.Rc.{rc_str_bytes}
use Rattle.std.proofs.lemmas.List.{take_more}
use Rattle.law_value.proofs.Joined.{separator-push}
use Rattle.script_canonical.proofs.Joined.{names_text-push}
use Rattle.script_canonical.proofs.program.push_names.Goals as goal

pub loop-name-preserved : goal.loop-name-preserved
loop-name-preserved c =
    let l = c.loop-name in
    let front = take l.name-index c.args.names.now in
    let name = c.name-item.result in
    let more : take (l.name-index + 1) c.args.names.now ≡ front ++ name ∷ [] =
    take_more c.args.names.now l.name-index name c.loop-name-test.true ∙ ap (λ x. front ++ x ∷ []) (sym c.name-item.is) in
    rw more (
      rw (names_text-push rc_str_bytes) (simp (c.in_ok-push_name.ensures, c.in_ok-extend_from_slice.ensures.items, l.invariant.0, l.invariant.1, append_assoc)),
      sym (separator-push front name),
    )
