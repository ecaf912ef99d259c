-- Where a line may stand, by the blocks that are open before it: a stack, on which each line acts in its turn.
-- Source: the Python language reference, "Compound statements", with `end` in place of indentation.
use Rattle.std.specs.Prelude.{ℕ, max, Bool, true, false, not, ◌&&◌, List, [], ◌∷◌, length, map, Option, Some, None, fold, nat_lt, nat_le}
use Rattle.std.specs.Prelude.{nat_eq, ◌||◌, if◌then◌else◌, option_to_list}
use Rattle.std.specs.List.{list_any}
use Rattle.model_text.specs.declared.cause.Cause.{Cause}
use Rattle.model_text.specs.declared.cause.Cause.TheVariants as cause
use Rattle.model_text.specs.Terms.{Term, height}
use Rattle.model_text.specs.Forms.{Form, Profile, Def, Assign, YieldFrom, Print, Raise, Return, If, Else, While, Try, Except, Finally, WithGroup, WithTimeout}
use Rattle.model_text.specs.Forms.{End, Goal, Awaited, Asked, Spelled}

-- the greatest number of open blocks, and the greatest height of an expression
abbrev pub most_blocks : ℕ
most_blocks = 32

abbrev pub most_height : ℕ
most_height = 32

pub data Block : Type 0 where
  DefBlock : Block
  IfBlock : Block
  WhileBlock : Block
  TryBlock : Block
  WithBlock : Block

pub data Section : Type 0 where
  ElseSection : Section
  ExceptSection : Section
  FinallySection : Section

-- what a line is to the blocks around it
pub data Role : Type 0 where
  Opens : (block : Block) → Role
  Begins : (section : Section) → Role
  Closes : Role
  -- one that opens, begins and closes nothing
  Stands : Role

abbrev pub role_of : {E G K : Type 0} → Form E G K → Role
role_of (Def name parameters) = Opens DefBlock
role_of (If test) = Opens IfBlock
role_of (While test) = Opens WhileBlock
role_of Try = Opens TryBlock
role_of (WithGroup name) = Opens WithBlock
role_of (WithTimeout delay name) = Opens WithBlock
role_of Else = Begins ElseSection
role_of (Except kind name) = Begins ExceptSection
role_of Finally = Begins FinallySection
role_of End = Closes
role_of _ = Stands

-- an open block, and its sections that have begun, the latest first
pub record OpenBlock : Type 0 where
  pub block : Block
  pub sections : List Section

-- the blocks that are open after a line, by those before it, the innermost first
abbrev pub after : Role → List OpenBlock → List OpenBlock
after (Opens block) blocks = record { block = block; sections = [] } ∷ blocks
after (Begins section) [] = []
after (Begins section) (block ∷ others) = record { block = block.block; sections = section ∷ block.sections } ∷ others
after Closes [] = []
after Closes (block ∷ others) = others
after Stands blocks = blocks

-- The blocks that are open after lines, the innermost first. The lines stand with the latest first.
abbrev pub open_blocks : List Role → List OpenBlock
open_blocks [] = []
open_blocks (role ∷ roles) = after role (open_blocks roles)

-- ---- where a form may stand
abbrev pub is_finally : List Section → Bool
is_finally (FinallySection ∷ sections) = true
is_finally _ = false

abbrev pub is_outside : List OpenBlock → Bool
is_outside [] = true
is_outside (block ∷ others) = false

-- `profile` stands before all other lines, `def` outside blocks, and statements in them; `return` isn't in a `finally`.
-- Where the lines of blocks may stand is a matter of nesting.
abbrev pub may_stand : (is_first : Bool) → List OpenBlock → Spelled → Bool
may_stand is_first blocks (Profile number) = is_first
may_stand is_first blocks (Def name parameters) = is_outside blocks
may_stand is_first blocks (Return value) =
    not (is_outside blocks) && not (list_any (λ block. is_finally block.sections) blocks)
may_stand is_first blocks Else = true
may_stand is_first blocks (Except kind name) = true
may_stand is_first blocks Finally = true
may_stand is_first blocks End = true
may_stand is_first blocks _ = not (is_outside blocks)

-- `else` once in an `if`; `except` and `finally` in a `try`, and nothing behind its `finally`
abbrev pub begins : Section → Block → List Section → Bool
begins ElseSection IfBlock [] = true
begins ExceptSection TryBlock sections = not (is_finally sections)
begins FinallySection TryBlock sections = not (is_finally sections)
begins _ _ _ = false

-- a `try` ends with an `except` or a `finally`
abbrev pub closes : Block → List Section → Bool
closes TryBlock [] = false
closes _ _ = true

-- the line fits the blocks that are open before it, and opens none too many
abbrev pub fits : List OpenBlock → Role → Bool
fits blocks (Opens block) = nat_lt (length blocks) most_blocks
fits [] (Begins section) = false
fits (block ∷ others) (Begins section) = begins section block.block block.sections
fits [] Closes = false
fits (block ∷ others) Closes = closes block.block block.sections
fits blocks Stands = true

-- ---- the height of what stands in a line
abbrev pub heights : List Term → ℕ
heights all = fold max 0 (map height all)

abbrev pub height_of_goal : Goal → ℕ
height_of_goal (Awaited name) = 0
height_of_goal (Asked name arguments) = max (heights arguments.before) (heights arguments.after)

abbrev pub height_of_form : Spelled → ℕ
height_of_form (Assign name value) = height value
height_of_form (YieldFrom into target) = height_of_goal target
height_of_form (Print items) = heights items
height_of_form (Raise fault) = height fault
height_of_form (Return value) = heights (option_to_list value)
height_of_form (If test) = height test
height_of_form (While test) = height test
height_of_form (WithTimeout delay name) = height delay
height_of_form _ = 0

-- the profiles that there are
abbrev pub is_profile : Spelled → Bool
is_profile (Profile number) = nat_eq number 1 || nat_eq number 2
is_profile _ = true

-- why a line may not stand behind lines with these roles, the latest first
abbrev pub cause_behind : List Role → Spelled → Option Cause
cause_behind roles form =
    let blocks = open_blocks roles in
    if not (may_stand (nat_eq (length roles) 0) blocks form) then Some cause.Form
    else (if not (fits blocks (role_of form) && nat_le (height_of_form form) most_height) then Some cause.Nesting
    else (if not (is_profile form) then Some cause.Profile
    else None))
