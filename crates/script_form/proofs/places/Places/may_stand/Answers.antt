use Rattle.std.proofs.Common.{length, nat_eq, sym, ◌∙◌}
use Rattle.model_text.specs.Places.{open_blocks}
use Rattle.script_form.proofs.PlaceLemmas.{outside_finally}
use Rattle.script_form.proofs.places.Places.may_stand.Goals as goal

pub returns-then-not-is_outside : goal.returns-then-not-is_outside
returns-then-not-is_outside c = λ roles form behind same.
    outside_finally c.args.self.now.blocks.items c.is_in_finally.result form (nat_eq (length roles) 0) (open_blocks roles) (sym c.in-OutsideFinally.is ∙ same)
    (sym c.if-not-is_outside.true ∙ c.is_outside-in-OutsideFinally.ensures roles behind) c.is_in_finally.ensures behind.blocks
