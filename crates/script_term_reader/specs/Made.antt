-- What code makes, seen as plain data, unless memory ran out.
use Rattle.std.specs.Prelude.{◌≡◌, Result, IfOk}

abbrev pub Makes : {A B E : Type 0} → (A → B) → B → Result A E → Type 0
Makes view value made = IfOk made (λ made. view made ≡ value)
