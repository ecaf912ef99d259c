-- What was read of a body: blocks that are open, with what stands in them, and what the lines behind make of these.
use Rattle.std.specs.Prelude.{◌≡◌, List, [], ◌∷◌, ◌++◌}
use Rattle.model_tree.specs.Syntax.{Statement, Statements, statement_then, statements}
use Rattle.model_text.specs.SecondPass.{Line}
use Rattle.model_text.specs.Bodies.{SectionBody, BlockLines, cut_from, bodies, statements_in}
use Rattle.aio_program.specs.declared.block.UnendedBlock.{UnendedBlock}
use Rattle.aio_program.specs.declared.body.OpenBody.{OpenBody}
use Rattle.aio_program.specs.declared.body.BodyStep.{BodyStep}
use Rattle.aio_program.specs.declared.body.BodyStep.TheVariants as step
use Rattle.aio_program.specs.Block.{over, latest, with_block}

-- statements in front of others
abbrev pub in_front : List Statement → Statements → Statements
in_front [] others = others
in_front (first ∷ more) others = statement_then first (in_front more others)

-- what lines make of an open section: its statements, the sections behind it in its block, and what stands behind the block
pub record SectionRest : Type 0 where
  pub body : Statements
  pub sections : List SectionBody
  pub behind : List Line

abbrev pub rest_of : List Statement → BlockLines → SectionRest
rest_of so_far cut =
    record { body = in_front so_far (statements_in cut.body); sections = bodies statements_in cut.sections; behind = cut.behind }

-- the lines behind the statements that were read of a section
unfoldable pub rest : List Statement → List Line → SectionRest
rest so_far lines = rest_of so_far (cut_from 0 lines)

-- the rest of the section around a block
unfoldable pub around_block : List Statement → List SectionBody → Line → SectionRest → SectionRest
around_block outer sections head inner =
    rest (with_block outer (sections ++ record { head = head; body = inner.body } ∷ inner.sections)) inner.behind

abbrev pub around : UnendedBlock → SectionRest → SectionRest
around block inner = around_block block.outer.items (over block) (latest block) inner

-- the rest of the outermost section, around blocks of which the innermost is the last
abbrev pub around_all : List UnendedBlock → SectionRest → SectionRest
around_all [] inner = inner
around_all (block ∷ blocks) inner = around block (around_all blocks inner)

-- the statements of a body of which lines are left
abbrev pub body_with : OpenBody → List Line → Statements
body_with begun lines = (around_all begun.blocks.items (rest begun.so_far.items lines)).body

abbrev pub step_with : BodyStep → List Line → Statements
step_with (step.More begun) lines = body_with begun lines
step_with (step.Over body) lines = statements body.items

-- a step is what a line makes of a body
abbrev pub IsStep : OpenBody → Line → BodyStep → Type 0
IsStep begun line step = (lines : List Line) → step_with step lines ≡ body_with begun (line ∷ lines)
