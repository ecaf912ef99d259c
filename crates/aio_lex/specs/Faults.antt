-- A fault of the code against a fault of the definition: want of memory is none.
use Rattle.std.specs.Prelude.{◌≡◌, Result, Ok, Err}
use Rattle.model_text.specs.Faults as model
use Rattle.aio_lex.specs.declared.fault.LexFault.{LexFault}
use Rattle.aio_lex.specs.declared.fault.LexFault.TheVariants.{BadByte, BadNumber, OpenText, Memory}

-- the definition answers this very fault, unless memory ran out
abbrev pub IsFaultOf : {A : Type 0} → LexFault → Result A model.TokenFault → Type 0
IsFaultOf (BadByte column) answer = answer ≡ Err (model.BadByte column)
IsFaultOf (BadNumber column) answer = answer ≡ Err (model.BadNumber column)
IsFaultOf (OpenText column) answer = answer ≡ Err (model.OpenText column)
IsFaultOf Memory answer = Unit {0}

-- the definition answers this very value, seen by view, or this very fault
abbrev pub Gives : {A B : Type 0} → (A → B) → Result A LexFault → Result B model.TokenFault → Type 0
Gives view (Ok value) answer = answer ≡ Ok (view value)
Gives view (Err fault) answer = IsFaultOf fault answer
