-- The lines of a seed's script mean themselves.
use Rattle.std.proofs.Common.{◌≡◌, ℕ, ◌^◌, ◌<◌, true, List, [], ◌∷◌, ◌++◌, Some, None, Ok, flat_map, refl, arith, lit<}
use Rattle.std.specs.Prelude.{codes}
use Rattle.std.specs.List.{AllByRecursion}
use Rattle.model_tree.specs.declared.operator.Operator.TheVariants.{Add}
use Rattle.model_tree.specs.declared.operator.Comparison.TheVariants.{Less}
use Rattle.model_tree.specs.declared.request_name.RequestName.TheVariants.{Sleep, Connect, ReadLine}
use Rattle.model_tree.specs.Syntax.{Name, Compare, Calculate, exprs, Ask}
use Rattle.model_text.specs.Forms.{Assign, YieldFrom, Print, While, WithTimeout}
use Rattle.model_text.specs.Naming.{Callee, Scope}
use Rattle.model_text.specs.SecondPass.{Line, bound_by, line_meant}
use Rattle.law_lines.specs.LineTexts.{spelled}
use Rattle.law_lines.specs.WellWritten.{WellWritten}
use Rattle.law_canonical.proofs.Judged.{scope_of, LinesMean, PartMeans, Meaning}
use Rattle.law_journal.specs.Program.{variable, number, text}
use Rattle.law_journal.proofs.Lines.{sleeper_lines, create_line, create_lines, opening_lines, reading_lines, closing_lines, main_lines, numbered}
use Rattle.law_journal.proofs.Lines.{meant_part, form_part, meant, parts}

abbrev callees : List Callee
callees = record { name = codes "w"; parameters = 2 } ∷ record { name = codes "main"; parameters = 0 } ∷ []

-- what main binds before it makes tasks, and what else
abbrev main_scope : List Name → Scope
main_scope others = record { callees = callees; variables = codes "c" ∷ codes "n" ∷ codes "g" ∷ others }

-- ---- lines that mean themselves, and that a text can spell
abbrev MeanThemselves : Scope → List Line → Type 0
MeanThemselves scope lines = AllByRecursion (λ line. line_meant scope (spelled line) ≡ Ok line) lines

lines-mean : (scope : Scope) (lines others : List Line) → MeanThemselves scope lines → AllByRecursion WellWritten lines
    → LinesMean scope (numbered others) others → LinesMean scope (numbered (lines ++ others)) (lines ++ others)
lines-mean scope [] others m w o = o
lines-mean scope (line ∷ lines) others m w o =
    (record { means = m.0; same = refl; well = w.0 }, lines-mean scope lines others m.1 w.1 o)

-- ---- the task
sleeper-well : AllByRecursion WellWritten sleeper_lines
sleeper-well =
    let timeout : WellWritten (WithTimeout (number 500) (codes "o")) = ((500, refl, lit< tt), ((refl, refl), refl)) in
    let sleep : WellWritten (YieldFrom None (Ask Sleep (exprs (variable "d" ∷ [])))) = (tt, (((refl, refl), refl), tt)) in
    let slept : WellWritten (Print (variable "i" ∷ text "slept" ∷ [])) =
    (((refl, refl), refl), ((lit< tt, (lit< tt, (lit< tt, (lit< tt, (lit< tt, tt))))), tt)) in
    let late : WellWritten (Print (variable "i" ∷ text "late" ∷ [])) =
    (((refl, refl), refl), ((lit< tt, (lit< tt, (lit< tt, (lit< tt, tt)))), tt)) in
    (tt, (timeout, (sleep, (tt, (slept, (tt, (late, (tt, (tt, tt)))))))))

sleeper-means : PartMeans callees [] (form_part (codes "w") (codes "i" ∷ codes "d" ∷ []) sleeper_lines)
    (meant_part (codes "w") (codes "i" ∷ codes "d" ∷ []) sleeper_lines)
sleeper-means = record {
  found = codes "w";
  head = refl;
  name = refl;
  parameters = refl;
  lines = lines-mean (scope_of callees (form_part (codes "w") (codes "i" ∷ codes "d" ∷ []) sleeper_lines)) sleeper_lines []
      (refl, (refl, (refl, (refl, (refl, (refl, (refl, (refl, (refl, tt))))))))) sleeper-well tt;
  well = (((refl, refl), refl), (((refl, refl), refl), (((refl, refl), refl), tt)));
}

-- ---- main
opening-well : AllByRecursion WellWritten opening_lines
opening-well =
    let connect : WellWritten (YieldFrom (Some (codes "c")) (Ask Connect (exprs (number 9 ∷ [])))) = (((refl, refl), refl), ((9, refl, lit< tt), tt)) in
    let zero : WellWritten (Assign (codes "n") (number 0)) = (((refl, refl), refl), (0, refl, lit< tt)) in
    (connect, (zero, (((refl, refl), refl), tt)))

reading-well : AllByRecursion WellWritten (reading_lines ++ closing_lines)
reading-well =
    let test : WellWritten (While (Compare Less (variable "n") (number 300))) = (((refl, refl), refl), (300, refl, lit< tt)) in
    let read : WellWritten (YieldFrom (Some (codes "b")) (Ask ReadLine (exprs (variable "c" ∷ [])))) = (((refl, refl), refl), (((refl, refl), refl), tt)) in
    let count : WellWritten (Assign (codes "n") (Calculate Add (variable "n") (number 1))) =
    (((refl, refl), refl), (((refl, refl), refl), (1, refl, lit< tt))) in
    let shown : WellWritten (Print (variable "n" ∷ [])) = (((refl, refl), refl), tt) in
    (test, (read, (count, (tt, (tt, (shown, (tt, tt)))))))

small : (n : ℕ) → n < 1000 → n < 2 ^ 63
small n h = omega arith

module _ (delay : ℕ → ℕ) (short : (task : ℕ) → delay task < 1000) where
  create-well : (task : ℕ) → task < 1000 → WellWritten (create_line (delay task) task)
  create-well task h =
      (tt, (((refl, refl), refl), ((refl, refl), refl), ((task, refl, small task h), ((delay task, refl, small (delay task) (short task)), tt))))

  creates-well : (tasks : List ℕ) → AllByRecursion (λ task. task < 1000) tasks → AllByRecursion WellWritten (create_lines delay tasks)
  creates-well [] a = tt
  creates-well (task ∷ tasks) a = (create-well task a.0, creates-well tasks a.1)

  creates-mean : (variables : List Name) (tasks : List ℕ) → MeanThemselves (main_scope variables) (create_lines delay tasks)
  creates-mean variables [] = tt
  creates-mean variables (task ∷ tasks) = (refl, creates-mean variables tasks)

  main-means : (tasks : List ℕ) → AllByRecursion (λ task. task < 1000) tasks
      → PartMeans callees (codes "w" ∷ []) (form_part (codes "main") [] (main_lines delay tasks)) (meant_part (codes "main") [] (main_lines delay tasks))
  main-means tasks a =
      let rest : List Line = reading_lines ++ closing_lines in
      let variables : List Name = flat_map (λ line. bound_by line.form) (numbered (create_lines delay tasks ++ rest)) in
      let scope : Scope = main_scope variables in
      record {
        found = codes "main";
        head = refl;
        name = refl;
        parameters = refl;
        lines = lines-mean scope opening_lines (create_lines delay tasks ++ rest) (refl, (refl, (refl, tt))) opening-well
            (lines-mean scope (create_lines delay tasks) rest (creates-mean variables tasks) (creates-well tasks a)
            (lines-mean scope rest [] (refl, (refl, (refl, (refl, (refl, (refl, (refl, tt))))))) reading-well tt));
        well = (((refl, refl), refl), tt);
      }

  pub meaning : (tasks : List ℕ) → AllByRecursion (λ task. task < 1000) tasks → Meaning (parts delay tasks) (meant delay tasks)
  meaning tasks a = record {
    each = (sleeper-means, (main-means tasks a, tt));
    line = 0;
    truth = true;
    main = refl;
  }
