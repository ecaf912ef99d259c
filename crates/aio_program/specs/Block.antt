-- Blocks that are read, and the statements that they make.
use Rattle.std.specs.Prelude.{List, [], ◌∷◌, ◌++◌, Option, Some, None, option_to_list, map}
use Rattle.model_tree.specs.Syntax.{Statement, Try, statements, Branch, no_branch, branch, Handlers, handler_then, Handler}
use Rattle.model_text.specs.SecondPass.{Line}
use Rattle.model_text.specs.Bodies.{SectionBody, block, handlers_in, finally_in}
use Rattle.aio_program.specs.declared.block.UnendedBlock.{UnendedBlock}
use Rattle.aio_program.specs.declared.block.Reached.{Reached}
use Rattle.aio_program.specs.declared.block.Reached.TheVariants as place
use Rattle.aio_program.specs.declared.block.FurtherSection.{FurtherSection}
use Rattle.aio_program.specs.declared.block.OpenTry.{OpenTry}
use Rattle.aio_program.specs.declared.sorted.Head.{Head}
use Rattle.aio_program.specs.Sorted.{plain_head, plain_begin}
use Rattle.aio_program.specs.Target.{plain_branch}

abbrev pub plain_section : FurtherSection → SectionBody
plain_section section = record { head = plain_begin section.begin; body = statements section.body }

-- the sections of a block that are over, and the line of the section that is read
abbrev pub over_at : Head → Reached → List SectionBody
over_at head place.First = []
over_at head (place.Further body sections begin) =
    record { head = plain_head head; body = statements body } ∷ map plain_section sections.items

abbrev pub latest_at : Head → Reached → Line
latest_at head place.First = plain_head head
latest_at head (place.Further body sections begin) = plain_begin begin

abbrev pub over : UnendedBlock → List SectionBody
over block = over_at block.head block.place

abbrev pub latest : UnendedBlock → Line
latest block = latest_at block.head block.place

-- all sections of a block, of which the last has these statements
abbrev pub sections_at : Head → Reached → List Statement → List SectionBody
sections_at head reached last = over_at head reached ++ record { head = latest_at head reached; body = statements last } ∷ []

abbrev pub sections : UnendedBlock → List Statement → List SectionBody
sections block last = sections_at block.head block.place last

-- the block that sections are, of which the first has the block's head
abbrev pub block_of : List SectionBody → Option Statement
block_of [] = None
block_of (first ∷ others) = block first.head first.body others

-- statements, and behind them a block
abbrev pub with_block : List Statement → List SectionBody → List Statement
with_block outer sections = outer ++ option_to_list (block_of sections)

-- ---- the sections of a `try`
-- clauses in front of others
abbrev pub handlers_before : List Handler → Handlers → Handlers
handlers_before [] others = others
handlers_before (first ∷ more) others = handler_then first.kind first.name first.body (handlers_before more others)

-- the first of two sections, if it is there
abbrev pub first_branch : Branch → Branch → Branch
first_branch no_branch second = second
first_branch (branch body) second = branch body

abbrev pub first_list : Option (List Statement) → List Statement → Option (List Statement)
first_list None second = Some second
first_list (Some first) second = Some first

-- a `try` with the sections behind those that were read
abbrev pub try_with : OpenTry → List SectionBody → Statement
try_with begun others =
    Try (statements begun.body) (handlers_before begun.handlers.items (handlers_in others)) (first_branch (plain_branch begun.finally) (finally_in others))

-- the same with a clause between
abbrev pub try_with_handler : OpenTry → Handler → List SectionBody → Statement
try_with_handler begun next others =
    Try (statements begun.body) (handlers_before begun.handlers.items (handler_then next.kind next.name next.body (handlers_in others)))
    (first_branch (plain_branch begun.finally) (finally_in others))
