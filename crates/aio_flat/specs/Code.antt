-- What code is the code of a program.
use Rattle.std.specs.Prelude.{◌≡◌, ℕ, List, [], ◌∷◌, Option, Some, None, length, map, slice_get}
use Rattle.model_tree.specs.Syntax.{Coroutine, Program}
use Rattle.model_says.specs.Variables.{variables_of}
use Rattle.algorithm_locals.specs.Numbered.{locals, numbered_coroutine, numbered_program}
use Rattle.algorithm_flat.specs.Ops.{CoroutineCode}
use Rattle.algorithm_flat.specs.Laid.{LaidAll}
use Rattle.algorithm_flat.specs.Stands.{AllLaidOut}
use Rattle.aio_flat.specs.declared.code.FlatBody.{FlatBody}
use Rattle.aio_flat.specs.declared.code.Code.{Code}

abbrev pub plain_body : FlatBody → CoroutineCode
plain_body body = record { ops = body.ops.items; ranges = body.ranges.items; variables = locals 0 body.variables }

-- a coroutine that there is not has no operations and no variables
abbrev pub code_at : Option FlatBody → CoroutineCode
code_at None = record { ops = []; ranges = []; variables = [] }
code_at (Some body) = plain_body body

abbrev pub codes_in : List FlatBody → ℕ → CoroutineCode
codes_in bodies coroutine = code_at (slice_get bodies coroutine)

abbrev pub codes_of : Code → ℕ → CoroutineCode
codes_of code = codes_in code.bodies.items

-- the code of a coroutine, whose variables go by their numbers
pub record IsBodyOf (program : Program) (coroutine : Coroutine) (body : FlatBody) : Type 0 where
  pub laid :
      LaidAll program (plain_body body) (numbered_coroutine coroutine).body 0 (length body.ops.items)
  pub variables : body.variables ≡ length (variables_of coroutine)
  pub name : body.name ≡ coroutine.name

abbrev pub AreBodiesOf : Program → List Coroutine → List FlatBody → Type 0
AreBodiesOf program [] [] = Unit {0}
AreBodiesOf program (coroutine ∷ coroutines) (body ∷ bodies) =
    IsBodyOf program coroutine body × AreBodiesOf program coroutines bodies
AreBodiesOf program _ _ = ⊥

-- the code of a program, which is laid out for the program over numbers
pub record IsCodeOf (program : Program) (code : Code) : Type 0 where
  pub laid_out : AllLaidOut (numbered_program program) (codes_of code)
  pub names : map (λ body. body.name) code.bodies.items ≡ map (λ coroutine. coroutine.name) program.coroutines
