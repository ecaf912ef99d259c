-- Which `with` blocks are open after a tape, innermost first. A block is what its entry was answered: it is open from
-- that answer on until its exit is answered, in whatever way.
-- Source: the language reference, "The with statement".
use Rattle.std.specs.Prelude.{ℕ, List, [], ◌∷◌, drop, fold}
use Rattle.model_value.specs.Input.{Input}
use Rattle.model_value.specs.declared.input.Input.TheVariants.{Send}
use Rattle.model_value.specs.declared.request.Request.TheVariants.{TimeoutEnter, TimeoutExit, GroupEnter, GroupExit}
use Rattle.model_value.specs.Request.{Request}
use Rattle.model_value.specs.Value.{Value}
use Rattle.model_tree.specs.Syntax.{Program}
use Rattle.model_says.specs.Endings.{Exchange}
use Rattle.model_says.specs.Says.{exchanges_along}
use Rattle.model_says.specs.Tape.{Tape}

abbrev pub open_with : List Value → Request → Input → List Value
open_with blocks (TimeoutEnter delay) (Send value) = value ∷ blocks
open_with blocks GroupEnter (Send value) = value ∷ blocks
open_with blocks (TimeoutExit timeout exception) answer = drop 1 blocks
open_with blocks (GroupExit group exception) answer = drop 1 blocks
open_with blocks _ _ = blocks

abbrev pub open_after : List Exchange → List Value
open_after = fold (λ blocks exchange. open_with blocks exchange.request exchange.answer) []

abbrev pub open_blocks : Program → (place : ℕ) → List Value → Tape → List Value
open_blocks program place arguments tape = open_after (exchanges_along program place arguments tape)
