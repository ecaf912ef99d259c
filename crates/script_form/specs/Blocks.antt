-- Open blocks as the code keeps them: of the sections that have begun in a block, the latest.
-- Source: the definition of places (model_text, specs/Places.antt).
use Rattle.std.specs.Prelude.{Bool, true, false, List, [], ◌∷◌, Option, Some, None, option_map}
use Rattle.model_text.specs.Places as plain
use Rattle.script_form.specs.declared.block.Block.{Block}
use Rattle.script_form.specs.declared.block.Block.TheVariants as block
use Rattle.script_form.specs.declared.block.Section.{Section}
use Rattle.script_form.specs.declared.block.Section.TheVariants as section
use Rattle.script_form.specs.declared.block.Role.{Role}
use Rattle.script_form.specs.declared.block.Role.TheVariants as role
use Rattle.script_form.specs.declared.block.OpenBlock.{OpenBlock}

abbrev pub plain_block : Block → plain.Block
plain_block block.Def = plain.DefBlock
plain_block block.If = plain.IfBlock
plain_block block.While = plain.WhileBlock
plain_block block.Try = plain.TryBlock
plain_block block.With = plain.WithBlock

abbrev pub plain_section : Section → plain.Section
plain_section section.Else = plain.ElseSection
plain_section section.Except = plain.ExceptSection
plain_section section.Finally = plain.FinallySection

abbrev pub plain_role : Role → plain.Role
plain_role (role.Opens block) = plain.Opens (plain_block block)
plain_role (role.Begins section) = plain.Begins (plain_section section)
plain_role role.Closes = plain.Closes
plain_role role.Stands = plain.Stands

-- what is kept of an open block
pub record KeptBlock : Type 0 where
  pub block : plain.Block
  pub latest : Option plain.Section

abbrev pub latest_of : List plain.Section → Option plain.Section
latest_of [] = None
latest_of (section ∷ sections) = Some section

abbrev pub kept : plain.OpenBlock → KeptBlock
kept open_block = record { block = open_block.block; latest = latest_of open_block.sections }

abbrev pub plain_open : OpenBlock → KeptBlock
plain_open open_block = record { block = plain_block open_block.block; latest = option_map plain_section open_block.latest }

-- its `finally` has begun
abbrev pub is_in_finally : KeptBlock → Bool
is_in_finally open_block = is_finally_section open_block.latest
  where
    is_finally_section : Option plain.Section → Bool
    is_finally_section (Some plain.FinallySection) = true
    is_finally_section _ = false
