-- The lines of a seed's script spell the statements of its program.
use Rattle.std.proofs.Common.{◌≡◌, ℕ, List, [], ◌∷◌, ◌++◌, Some, map, refl, sym, ap, ap₂, ◌∙◌, append_assoc}
use Rattle.std.specs.Prelude.{codes}
use Rattle.model_tree.specs.declared.request_name.RequestName.TheVariants.{Connect}
use Rattle.model_tree.specs.Syntax as plain
use Rattle.model_tree.specs.Syntax.{exprs, Statement, Statements, statements, Program}
use Rattle.model_text.specs.Forms.{Print, End}
use Rattle.model_text.specs.SecondPass.{Line}
use Rattle.model_text.specs.Spells.{Spells, spells_nothing, spells_next, spells_line, spells_while, spells_group}
use Rattle.model_text.specs.Bodies.{statements_in, body_in}
use Rattle.model_text.specs.Scripts as coroutines
use Rattle.law_canonical.proofs.BodyLemmas.{spelled-body}
use Rattle.model_work.specs.Work.{group_size, delay, numbers_from}
use Rattle.law_journal.specs.Program.{variable, number, create, reading, sleeper, program}
use Rattle.law_journal.proofs.Lines.{sleeper_lines, create_lines, opening_lines, reading_lines, main_lines, meant}

sleeper-body : body_in sleeper_lines ≡ sleeper.body
unfolding statements_in
sleeper-body = refl

-- ---- main
abbrev pub creating : (ℕ → ℕ) → List ℕ → List Statement
creating delay tasks = map (λ task. create (delay task) task) tasks

creates-spelled : (delay : ℕ → ℕ) (tasks : List ℕ) (lines : List Line) (others : List Statement) → Spells lines (statements others)
    → Spells (create_lines delay tasks ++ lines) (statements (creating delay tasks ++ others))
creates-spelled delay [] lines others s = s
creates-spelled delay (task ∷ tasks) lines others s =
    spells_next (spells_line refl) (creates-spelled delay tasks lines others s)

reading-spelled : Spells reading_lines (statements (reading ∷ []))
reading-spelled =
    spells_next (spells_while (spells_next (spells_line refl) (spells_next (spells_line refl) spells_nothing))) spells_nothing

abbrev pub main_body : (ℕ → ℕ) → List ℕ → Statements
main_body delay tasks = statements (
    plain.YieldFrom (Some (codes "c")) (plain.Ask Connect (exprs (number 9 ∷ [])))
    ∷ plain.Assign (codes "n") (number 0)
    ∷ plain.With plain.GroupBlock (codes "g") (statements (creating delay tasks ++ reading ∷ []))
    ∷ plain.Print (exprs (variable "n" ∷ []))
    ∷ [])

pub four : {A : Type 0} (a b c d e : List A) → (((a ++ b) ++ c) ++ d) ++ e ≡ a ++ (b ++ (c ++ (d ++ e)))
four a b c d e = append_assoc ((a ++ b) ++ c) d e ∙ (append_assoc (a ++ b) c (d ++ e) ∙ append_assoc a b (c ++ (d ++ e)))

-- main's lines without its `end`
abbrev inner : (ℕ → ℕ) → List ℕ → List Line
inner delay tasks = opening_lines ++ (((create_lines delay tasks ++ reading_lines) ++ End ∷ []) ++ Print (variable "n" ∷ []) ∷ [])

inner-spelled : (delay : ℕ → ℕ) (tasks : List ℕ) → Spells (inner delay tasks) (main_body delay tasks)
inner-spelled delay tasks =
    spells_next (spells_line refl) (spells_next (spells_line refl)
    (spells_next (spells_group (creates-spelled delay tasks reading_lines (reading ∷ []) reading-spelled)) (spells_next (spells_line refl) spells_nothing)))

main-lines : (delay : ℕ → ℕ) (tasks : List ℕ) → inner delay tasks ++ End ∷ [] ≡ main_lines delay tasks
main-lines delay tasks =
    ap (λ (lines : List Line). opening_lines ++ lines) (four (create_lines delay tasks) reading_lines (End ∷ []) (Print (variable "n" ∷ []) ∷ []) (End ∷ []))

main-spelled : (delay : ℕ → ℕ) (tasks : List ℕ) → body_in (main_lines delay tasks) ≡ main_body delay tasks
main-spelled delay tasks =
    ap body_in (sym (main-lines delay tasks)) ∙ spelled-body (inner delay tasks) (main_body delay tasks) (inner-spelled delay tasks)

pub program-of : (seed : ℕ) → coroutines.program 1 (meant (delay seed) (numbers_from 1 (group_size seed))) ≡ program seed
program-of seed =
    ap₂ (λ (task body : Statements).
    let p : Program = record {
      profile = 1;
      coroutines = record { name = codes "w"; parameters = codes "i" ∷ codes "d" ∷ []; body = task }
          ∷ record { name = codes "main"; parameters = []; body = body } ∷ [];
    } in p) sleeper-body (main-spelled (delay seed) (numbers_from 1 (group_size seed)))
