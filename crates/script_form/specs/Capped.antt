-- What was read, unless it is too high, seen as plain data.
use Rattle.std.specs.Prelude.{Option, Some, None}
use Rattle.script_form.specs.declared.capped.Capped.{Capped}
use Rattle.script_form.specs.declared.capped.Capped.TheVariants.{Fits, TooHigh}

-- what isn't too high
abbrev pub plain_capped : {A : Type 0} → Capped A → Option A
plain_capped (Fits it) = Some it
plain_capped TooHigh = None
