-- The code of a program, coroutine by coroutine.
use Rattle.std.proofs.Common.{◌≡◌, ℕ, zero, suc, List, [], ◌∷◌, ◌++◌, length, map, slice_get, refl, sym, ap, ap₂, ◌∙◌, arith}
use Rattle.std.proofs.lemmas.Option.{slice_get_within, slice_get_past}
use Rattle.model_tree.specs.Syntax.{Coroutine, Program}
use Rattle.model_says.specs.Variables.{variables_of}
use Rattle.model_says.specs.Requests.{coroutine_or_none}
use Rattle.algorithm_locals.specs.Numbered.{locals, numbered_coroutine, numbered_program}
use Rattle.algorithm_locals.proofs.Coroutines.{variables-same}
use Rattle.algorithm_flat.specs.declared.op.Op.TheVariants as op
use Rattle.algorithm_flat.specs.Laid.{LaidAll}
use Rattle.algorithm_flat.specs.Nearer.{JumpsForward}
use Rattle.algorithm_flat.specs.Stands.{LaidOut}
use Rattle.aio_flat.specs.declared.code.FlatBody.{FlatBody}
use Rattle.aio_flat.specs.Code.{codes_in, IsBodyOf, AreBodiesOf}

pub none-forward : JumpsForward (record { ops = []; ranges = []; variables = [] })
none-forward place to has = absurd (omega (arith, slice_get_within [] place (op.Jump to) has))

pub bodies-push : (program : Program) (coroutines : List Coroutine) (bodies : List FlatBody) (coroutine : Coroutine) (body : FlatBody) →
    AreBodiesOf program coroutines bodies → IsBodyOf program coroutine body →
    AreBodiesOf program (coroutines ++ coroutine ∷ []) (bodies ++ body ∷ [])
bodies-push program [] [] coroutine body are is = (is, tt)
bodies-push program (first ∷ coroutines) (one ∷ bodies) coroutine body are is =
    (are.0, bodies-push program coroutines bodies coroutine body are.1 is)
bodies-push program [] (one ∷ bodies) coroutine body are is = absurd are
bodies-push program (first ∷ coroutines) [] coroutine body are is = absurd are

abbrev numbered_at : List Coroutine → ℕ → Coroutine
numbered_at coroutines at = coroutine_or_none (slice_get (map numbered_coroutine coroutines) at)

laid-at : (program : Program) (coroutines : List Coroutine) (bodies : List FlatBody) (at : ℕ) →
    AreBodiesOf program coroutines bodies →
    LaidAll program (codes_in bodies at) (numbered_at coroutines at).body 0 (length (codes_in bodies at).ops)
laid-at program [] [] at are = refl
laid-at program (first ∷ coroutines) (one ∷ bodies) zero are = are.0.laid
laid-at program (first ∷ coroutines) (one ∷ bodies) (suc at) are = laid-at program coroutines bodies at are.1
laid-at program [] (one ∷ bodies) at are = absurd are
laid-at program (first ∷ coroutines) [] at are = absurd are

variables-at : (program : Program) (coroutines : List Coroutine) (bodies : List FlatBody) →
    AreBodiesOf program coroutines bodies → (at : ℕ) →
    (codes_in bodies at).variables ≡ variables_of (numbered_at coroutines at)
variables-at program [] [] are at = refl
variables-at program (first ∷ coroutines) (one ∷ bodies) are zero = ap (locals 0) are.0.variables ∙ sym (variables-same first)
variables-at program (first ∷ coroutines) (one ∷ bodies) are (suc at) = variables-at program coroutines bodies are.1 at
variables-at program [] (one ∷ bodies) are at = absurd are
variables-at program (first ∷ coroutines) [] are at = absurd are

pub laid-out : (program : Program) (bodies : List FlatBody) → AreBodiesOf (numbered_program program) program.coroutines bodies →
    (at : ℕ) → LaidOut (numbered_program program) (codes_in bodies) at
laid-out program bodies are at = record {
  end = length (codes_in bodies at).ops;
  body = laid-at (numbered_program program) program.coroutines bodies at are;
  ends = slice_get_past (codes_in bodies at).ops (length (codes_in bodies at).ops) (omega arith);
  variables = variables-at (numbered_program program) program.coroutines bodies are at;
}

pub names-of : (program : Program) (coroutines : List Coroutine) (bodies : List FlatBody) →
    AreBodiesOf program coroutines bodies →
    map (λ (body : FlatBody). body.name) bodies ≡ map (λ (coroutine : Coroutine). coroutine.name) coroutines
names-of program [] [] are = refl
names-of program (first ∷ coroutines) (one ∷ bodies) are =
    ap₂ (λ name names. name ∷ names) are.0.name (names-of program coroutines bodies are.1)
names-of program [] (one ∷ bodies) are = absurd are
names-of program (first ∷ coroutines) [] are = absurd are
