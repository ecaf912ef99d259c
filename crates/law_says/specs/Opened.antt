-- Which `with` blocks are open after a tape, innermost first, each with the request that entered it.
-- Source: the language reference, "The with statement".
use Rattle.std.specs.Prelude.{◌≡◌, ℕ, List, [], ◌∷◌, drop, fold}
use Rattle.model_value.specs.Input.{Input}
use Rattle.model_value.specs.declared.input.Input.TheVariants.{Send}
use Rattle.model_value.specs.declared.request.Request.TheVariants.{TimeoutEnter, TimeoutExit, GroupEnter, GroupExit}
use Rattle.model_value.specs.Request.{Request}
use Rattle.model_value.specs.Value.{Value}
use Rattle.model_tree.specs.Syntax.{Program}
use Rattle.model_says.specs.Endings.{Exchange, progress_of}
use Rattle.model_says.specs.Says.{course}
use Rattle.model_says.specs.Tape.{Tape}

-- a block by what its entry was answered
pub data EnteredBlock : Type 0 where
  OfTimeout : (entered : Value) → EnteredBlock
  OfGroup : (entered : Value) → EnteredBlock

abbrev pub entered_as : EnteredBlock → Value
entered_as (OfTimeout entered) = entered
entered_as (OfGroup entered) = entered

abbrev pub opened_with : List EnteredBlock → Request → Input → List EnteredBlock
opened_with blocks (TimeoutEnter delay) (Send value) = OfTimeout value ∷ blocks
opened_with blocks GroupEnter (Send value) = OfGroup value ∷ blocks
opened_with blocks (TimeoutExit timeout fault) answer = drop 1 blocks
opened_with blocks (GroupExit group fault) answer = drop 1 blocks
opened_with blocks _ _ = blocks

abbrev pub opened_after : List Exchange → List EnteredBlock
opened_after = fold (λ blocks exchange. opened_with blocks exchange.request exchange.answer) []

-- the requests that were answered along a tape, with their answers
abbrev pub answered : (limit : ℕ) → Program → (place : ℕ) → List Value → Tape → List Exchange
answered limit program place arguments tape = (progress_of (course limit program place arguments tape)).exchanges

abbrev pub opened : (limit : ℕ) → Program → (place : ℕ) → List Value → Tape → List EnteredBlock
opened limit program place arguments tape = opened_after (answered limit program place arguments tape)

-- An exit is that of the block that is innermost among these, with what its entry was answered. Any other request leaves none.
abbrev pub LeavesBlocks : Request → List EnteredBlock → Type 0
LeavesBlocks (TimeoutExit timeout fault) blocks = (outer : List EnteredBlock) × (blocks ≡ OfTimeout timeout ∷ outer)
LeavesBlocks (GroupExit group fault) blocks = (outer : List EnteredBlock) × (blocks ≡ OfGroup group ∷ outer)
LeavesBlocks request blocks = Unit {0}
