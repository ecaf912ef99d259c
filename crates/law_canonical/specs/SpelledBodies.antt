-- The lines behind the head of a coroutine: those that spell its body, and its `end`.
-- Source: the Python language reference, "Function definitions", with `end` in place of indentation.
use Rattle.std.specs.Prelude.{◌≡◌, List, [], ◌∷◌, ◌++◌}
use Rattle.model_text.specs.Forms.{End}
use Rattle.model_text.specs.SecondPass.{Line}
use Rattle.model_text.specs.Bodies.{body_in}
use Rattle.model_text.specs.Spells.{Spells}

pub record SpellsBody (lines : List Line) : Type 0 where
  pub inner : List Line
  pub split : lines ≡ inner ++ End ∷ []
  pub spelled : Spells inner (body_in lines)
