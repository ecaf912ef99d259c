use Rattle.std.proofs.Common.{ℕ, rules, refl, inl, inr}
use Rattle.std.proofs.lemmas.Fn.{filter_same}
use Rattle.slab.specs.Slab.{get}
use Rattle.aio_timer.specs.Kept.{is_numbered}
use Rattle.aio_timer.proofs.number.thin.Goals as goal

pub returns-then-not-is_crowded : goal.returns-then-not-is_crowded
returns-then-not-is_crowded c = inl refl

pub returns : goal.returns
returns c =
    inr (filter_same _ (λ (pair : ℕ × ℕ). is_numbered pair.0 (get c.args.entries.now pair.1)) _ (λ x b f' k. search rules) _ _ c.retain.ensures.filtered)
