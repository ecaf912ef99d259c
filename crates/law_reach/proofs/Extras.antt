-- What is added to the loop's own requests does a row of changes.
use Rattle.std.proofs.Common.{ℕ, refl, false, List, [], ◌∷◌, Option}
use Rattle.model_value.specs.declared.action.Action.TheVariants as action
use Rattle.model_loop.specs.Loop.{Loop}
use Rattle.model_loop.specs.Parts.{Plain, Many}
use Rattle.model_machine.specs.Extra.{ExtraStep, MakesPlain, MakesMany, Settles as ExtraSettles, Releases, Registers as ExtraRegisters}
use Rattle.model_machine.specs.Extra.{CallsSoon as ExtraSoon}
use Rattle.model_machine.specs.Extra.{CallsLater as ExtraLater, Revokes as ExtraRevokes, Cancels, Uncancels, made_by, made_by_all}
use Rattle.law_changes.specs.Changes.{CallsSoon, CallsLater, Revokes, MakesFuture, Settles, Registers, OfParts}
use Rattle.law_changes.specs.Reaches.{LoopReaches, stays}
use Rattle.law_changes.proofs.LoopRows.{asks_row, takes_row}
use Rattle.law_changes.proofs.Folds.{one, on}

module _ (r : Option ℕ) where
  made_row : (step : ExtraStep) (l : Loop) → LoopReaches r l (made_by step l)
  made_row MakesPlain l = one (OfParts (MakesFuture Plain)) tt
  made_row (MakesMany members) l = one (OfParts (MakesFuture (Many members false))) tt
  made_row (ExtraSettles future outcome) l = one (OfParts (Settles future outcome)) tt
  made_row (Releases future) l = stays
  made_row (ExtraRegisters future key) l = one (OfParts (Registers future (action.Extra key))) refl
  made_row (ExtraSoon key) l = one (OfParts (CallsSoon (action.Extra key))) refl
  made_row (ExtraLater when key) l = one (OfParts (CallsLater when (action.Extra key))) tt
  made_row (ExtraRevokes tag) l = one (OfParts (Revokes tag)) tt
  made_row (Cancels key future) l = asks_row r _ future l
  made_row (Uncancels key task) l = takes_row r _ task l

  pub all_row : (steps : List ExtraStep) (l : Loop) → LoopReaches r l (made_by_all steps l)
  all_row [] l = stays
  all_row (step ∷ steps) l = on (made_row step l) (all_row steps (made_by step l))
