-- The canonical text of a seed's program is its script, and is short.
use Rattle.std.proofs.Common.{◌≡◌, ℕ, ◌*◌, ◌<◌, ◌≤◌, List, [], ◌∷◌, ◌++◌, length, flat_map, refl, sym, ap, ◌∙◌, append_assoc, append-nil, arith}
use Rattle.std.specs.Prelude.{codes}
use Rattle.std.specs.List.{AllByRecursion}
use Rattle.std.specs.Fmt.{decimal, digits}
use Rattle.std.proofs.lemmas.List.{length-append}
use Rattle.model_tree.specs.Syntax.{exprs, Print, Statement, statements}
use Rattle.model_text.specs.Canonical.{end_in, statement_text, statements_text, coroutine_text, canonical}
use Rattle.law_journal.proofs.Lengths.{decimal-short}
use Rattle.model_work.specs.Work.{group_size, delay, numbers_from, sleeper_text, opening_text, create_text, reading_text, creating_text, script}
use Rattle.law_journal.specs.Program.{variable, create, reading, sleeper, main, program}
use Rattle.law_journal.proofs.Tasks.{delay-short, group-small, numbers-below, numbers-many}
use Rattle.law_journal.proofs.WorkBodies.{creating, four}

abbrev piece : (ℕ → ℕ) → ℕ → List ℕ
piece delay task = create_text task (delay task)

-- ---- the text
ending : (task delay : List ℕ) → ((task ++ (codes ", " ++ (delay ++ []))) ++ codes ")") ++ codes "\n" ≡ ((task ++ codes ", ") ++ delay) ++ codes ")\n"
ending task delay =
    append_assoc (task ++ (codes ", " ++ (delay ++ []))) (codes ")") (codes "\n")
    ∙ (append_assoc task (codes ", " ++ (delay ++ [])) (codes ")\n")
    ∙ (ap (λ text. task ++ (codes ", " ++ (text ++ codes ")\n"))) (append-nil delay)
    ∙ (sym (append_assoc task (codes ", ") (delay ++ codes ")\n")) ∙ sym (append_assoc (task ++ codes ", ") delay (codes ")\n")))))

create-text : (delay task : ℕ) → statement_text (create delay task) 2 ≡ create_text task delay
create-text delay task = ap (λ text. codes "    yield from create(g, w, " ++ text) (ending (decimal task) (decimal delay))

creates-text : (delay : ℕ → ℕ) (tasks : List ℕ) (others : List Statement) → statements_text (statements (creating delay tasks ++ others)) 2
    ≡ flat_map (piece delay) tasks ++ statements_text (statements others) 2
creates-text delay [] others = refl
creates-text delay (task ∷ tasks) others =
    ap (λ text. statement_text (create (delay task) task) 2 ++ text) (creates-text delay tasks others)
    ∙ (ap (λ text. text ++ (flat_map (piece delay) tasks ++ statements_text (statements others) 2)) (create-text (delay task) task)
    ∙ sym (append_assoc (piece delay task) (flat_map (piece delay) tasks) (statements_text (statements others) 2)))

sleeper-written : coroutine_text sleeper ≡ sleeper_text
unfolding digits
sleeper-written = refl

-- main's last line before its `end`
abbrev printed : List ℕ
printed = statements_text (statements (Print (exprs (variable "n" ∷ [])) ∷ [])) 1

-- what stands in the group's block, and what follows
abbrev closing : List ℕ → List ℕ
closing text = ((text ++ end_in 1) ++ printed) ++ end_in 0

closed : (text : List ℕ) → closing (text ++ statements_text (statements (reading ∷ [])) 2) ≡ text ++ reading_text
unfolding digits
closed text = four text (statements_text (statements (reading ∷ [])) 2) (end_in 1) printed (end_in 0)

main-written : (seed : ℕ) → coroutine_text (main seed) ≡ opening_text ++ (creating_text seed ++ reading_text)
unfolding digits
main-written seed =
    ap (λ body. opening_text ++ closing body) (creates-text (delay seed) (numbers_from 1 (group_size seed)) (reading ∷ []))
    ∙ ap (λ text. opening_text ++ text) (closed (creating_text seed))

pub program-written : (seed : ℕ) → canonical (program seed) ≡ script seed
unfolding canonical
program-written seed =
    ap (λ text. text ++ (coroutine_text (main seed) ++ [])) sleeper-written
    ∙ ap (λ text. sleeper_text ++ text) (append-nil (coroutine_text (main seed)) ∙ main-written seed)

-- ---- its length
create-short : (task delay : ℕ) → task < 1000 → delay < 1000 → length (create_text task delay) ≤ 80
create-short task delay h k =
    let t = decimal-short task (omega arith) in
    let d = decimal-short delay (omega arith) in
    omega (
      arith,
      length-append ((decimal task ++ codes ", ") ++ decimal delay) (codes ")\n"),
      length-append (decimal task ++ codes ", ") (decimal delay),
      length-append (decimal task) (codes ", "),
    )

creates-short : (delay : ℕ → ℕ) (tasks : List ℕ) → ((task : ℕ) → delay task < 1000) → AllByRecursion (λ task. task < 1000) tasks
    → length (flat_map (piece delay) tasks) ≤ 80 * length tasks
creates-short delay [] s a = omega arith
creates-short delay (task ∷ tasks) s a =
    omega (arith, length-append (piece delay task) (flat_map (piece delay) tasks), create-short task (delay task) a.0 (s task), creates-short delay tasks s a.1)

pub script-short : (seed : ℕ) → length (script seed) ≤ 1048576
script-short seed =
    let tasks : List ℕ = numbers_from 1 (group_size seed) in
    let below : AllByRecursion (λ task. task < 1000) tasks = numbers-below 1000 1 (group_size seed) (omega (arith, group-small seed)) in
    omega (
      arith,
      length-append sleeper_text (opening_text ++ (creating_text seed ++ reading_text)),
      length-append opening_text (creating_text seed ++ reading_text),
      length-append (creating_text seed) reading_text,
      creates-short (delay seed) tasks (delay-short seed) below,
      numbers-many 1 (group_size seed),
      group-small seed,
    )
