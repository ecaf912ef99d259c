use Rattle.std.proofs.Common.{◌++◌, [], ◌∷◌, subst, sym}
use Rattle.model_text.specs.Naming.{both}
use Rattle.script_naming.specs.Gives.{Gives}
use Rattle.script_naming.proofs.Meanings.{gives-both, gives-err}
use Rattle.script_naming.proofs.meaning.pushed.Goals as goal

pub returns-in_err-all : goal.returns-in_err-all
returns-in_err-all c = λ front behind front_is behind_is.
    let all = gives-both (λ xs x. xs ++ x ∷ []) (λ v. v.items) (λ x. x) front behind c.args.all c.args.last front_is behind_is in
    gives-err (λ v. v.items) (both (λ xs x. xs ++ x ∷ []) front behind) c.from_residual.result c.in_err-all.field-0.0 c.from_residual.ensures.1
    (subst (λ found. Gives (λ pair. pair.0.items ++ pair.1 ∷ []) (both (λ xs x. xs ++ x ∷ []) front behind) found) (sym c.in_err-all.ensures) all)
