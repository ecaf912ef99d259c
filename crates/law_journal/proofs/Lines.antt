-- The lines of a seed's script, and the coroutines that they are.
use Rattle.std.specs.Prelude.{ℕ, List, [], ◌∷◌, ◌++◌, Some, None, map, codes}
use Rattle.model_value.specs.declared.kind.Kind.TheVariants.{TimeoutError}
use Rattle.model_tree.specs.declared.operator.Operator.TheVariants.{Add}
use Rattle.model_tree.specs.declared.operator.Comparison.TheVariants.{Less}
use Rattle.model_tree.specs.declared.request_name.RequestName.TheVariants.{Sleep, Connect, ReadLine}
use Rattle.model_tree.specs.Syntax.{Name, Compare, Calculate, exprs, Ask, CreateTask}
use Rattle.model_text.specs.Forms.{Assign, YieldFrom, Print, While, Try, Except, WithGroup, WithTimeout, End, Spelled}
use Rattle.model_text.specs.FirstPass.{Numbered}
use Rattle.model_text.specs.SecondPass.{Line, Part}
use Rattle.law_lines.specs.LineTexts.{spelled}
use Rattle.law_journal.specs.Program.{variable, number, text}

abbrev pub sleeper_lines : List Line
sleeper_lines =
    Try
    ∷ WithTimeout (number 500) (codes "o")
    ∷ YieldFrom None (Ask Sleep (exprs (variable "d" ∷ [])))
    ∷ End
    ∷ Print (variable "i" ∷ text "slept" ∷ [])
    ∷ Except TimeoutError None
    ∷ Print (variable "i" ∷ text "late" ∷ [])
    ∷ End
    ∷ End
    ∷ []

abbrev pub create_line : ℕ → ℕ → Line
create_line delay task = YieldFrom None (CreateTask (variable "g") (codes "w") (exprs (number task ∷ number delay ∷ [])))

abbrev pub create_lines : (ℕ → ℕ) → List ℕ → List Line
create_lines delay tasks = map (λ task. create_line (delay task) task) tasks

abbrev pub reading_lines : List Line
reading_lines =
    While (Compare Less (variable "n") (number 300))
    ∷ YieldFrom (Some (codes "b")) (Ask ReadLine (exprs (variable "c" ∷ [])))
    ∷ Assign (codes "n") (Calculate Add (variable "n") (number 1))
    ∷ End
    ∷ []

abbrev pub closing_lines : List Line
closing_lines = End ∷ Print (variable "n" ∷ []) ∷ End ∷ []

abbrev pub opening_lines : List Line
opening_lines =
    YieldFrom (Some (codes "c")) (Ask Connect (exprs (number 9 ∷ [])))
    ∷ Assign (codes "n") (number 0)
    ∷ WithGroup (codes "g")
    ∷ []

abbrev pub main_lines : (ℕ → ℕ) → List ℕ → List Line
main_lines delay tasks = opening_lines ++ (create_lines delay tasks ++ (reading_lines ++ closing_lines))

-- ---- the coroutines
abbrev pub numbered : List Line → List (Numbered Spelled)
numbered lines = map (λ line. record { line = 0; form = spelled line }) lines

abbrev pub meant_part : Name → List Name → List Line → Part Line
meant_part name parameters lines = record { line = 0; name = name; parameters = parameters; lines = lines }

abbrev pub form_part : Name → List Name → List Line → Part (Numbered Spelled)
form_part name parameters lines = record { line = 0; name = name; parameters = parameters; lines = numbered lines }

abbrev pub meant : (ℕ → ℕ) → List ℕ → List (Part Line)
meant delay tasks = meant_part (codes "w") (codes "i" ∷ codes "d" ∷ []) sleeper_lines ∷ meant_part (codes "main") [] (main_lines delay tasks) ∷ []

abbrev pub parts : (ℕ → ℕ) → List ℕ → List (Part (Numbered Spelled))
parts delay tasks = form_part (codes "w") (codes "i" ∷ codes "d" ∷ []) sleeper_lines ∷ form_part (codes "main") [] (main_lines delay tasks) ∷ []
