use Rattle.std.proofs.Common.{◌≡◌, ℕ, List, [], ◌∷◌, ◌++◌, codes, ◌∙◌, ap, append_assoc}
use Rattle.std.proofs.lemmas.Result.{IfOk-weaker}
use Rattle.std.specs.Fmt.{decimal}
use Rattle.model_wire.specs.Trace.{line}
use Rattle.model_commands.specs.Works.{counts_text}
use Rattle.aio_tally.specs.Tallied.{plain_counts}
use Rattle.aio_run.proofs.working.work_line.Goals as goal

regrouped : (number told : List ℕ) → codes "work " ++ (number ++ (codes ": " ++ (told ++ 10 ∷ []))) ≡ line (codes "work " ++ number ++ codes ": " ++ told)
regrouped number told = simp append_assoc

pub returns : goal.returns
returns c =
    IfOk-weaker c.format.result _ _
    (λ text e.
    e ∙ ap (λ (told : List ℕ). codes "work " ++ (decimal c.args.seed ++ (codes ": " ++ (told ++ 10 ∷ [])))) c.in_ok-told.ensures
    ∙ regrouped (decimal c.args.seed) (counts_text (plain_counts c.args.counts.now))) c.format.ensures.ok
