use Rattle.std.proofs.Common.{◌≡◌, ◌++◌, ℕ, ◌+◌, ◌<◌, ◌∷◌, [], List, Option, Some, None, get_or, length, take, refl, ap, sym, ◌∙◌, add-one}
use Rattle.std.proofs.Math.Seq.{take-suc}
use Rattle.std.proofs.lemmas.List.{take_all}
use Rattle.std.proofs.lemmas.List.Elements.{filter_map-append}
use Rattle.std.specs.List.{cons_option}
use Rattle.std.specs.Option.{option_copied}
use Rattle.model_value.specs.Value.{Exc}
use Rattle.model_loop.specs.Children.{failures}
use Rattle.model_loop.specs.Groups.{failure_of}
use Rattle.model_loop.specs.Parts.{Parts}
use Rattle.aio_task.specs.View.{parts}
use Rattle.aio_group.specs.Held.{listed}
use Rattle.aio_group.proofs.failures.members_of.Goals as goal

alone : (o : Option Exc) → cons_option o [] ≡ listed o
alone None = refl
alone (Some fault) = refl

failures-more : (p : Parts) (tasks : List ℕ) (k : ℕ) → k < length tasks
    → failures p (take (k + 1) tasks) ≡ failures p (take k tasks) ++ listed (failure_of p (get_or tasks k 0))
failures-more p tasks k m =
    ap (λ n. failures p (take n tasks)) (add-one k) ∙ ap (failures p) (take-suc tasks k 0 m)
    ∙ filter_map-append (failure_of p) (take k tasks) (get_or tasks k 0 ∷ [])
    ∙ ap (λ es. failures p (take k tasks) ++ es) (alone (failure_of p (get_or tasks k 0)))

pub loop-task-preserved : goal.loop-task-preserved
loop-task-preserved c =
    c.in_ok-push_copy.ensures
    ∙ ap (λ es. es ++ listed (option_copied c.failure_of.result)) c.loop-task.invariant
    ∙ ap (λ o. failures (parts c.args.parts.now) (take c.loop-task.task-index c.args.failed.now) ++ listed o) c.failure_of.ensures
    ∙ sym (failures-more (parts c.args.parts.now) c.args.failed.now c.loop-task.task-index c.loop-task-test.true)

pub returns : goal.returns
returns c =
    let all = take_all c.loop-task.task-index c.args.failed.now c.loop-task-test.false in
    c.in_ok-push_copy-2.ensures
    ∙ ap (λ es. es ++ listed (option_copied c.args.body)) (c.loop-task.invariant ∙ ap (failures (parts c.args.parts.now)) all)
