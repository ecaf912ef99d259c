-- The numbers by which the causes of refused scripts are told.
use Rattle.std.specs.Prelude.{ℕ}
use Rattle.model_text.specs.declared.cause.Cause.{Cause}
use Rattle.model_text.specs.declared.cause.Cause.TheVariants as cause

abbrev pub cause_number : Cause → ℕ
cause_number cause.Token = 1
cause_number cause.Form = 2
cause_number cause.Nesting = 3
cause_number cause.Name = 4
cause_number cause.Arity = 5
cause_number cause.TooLong = 6
cause_number cause.NoMain = 7
cause_number cause.Profile = 8
