-- The script of every seed is read as its program.
use Rattle.std.proofs.Common.{◌≡◌, ℕ, ◌<◌, ◌≤◌, List, Ok, length, refl, sym, ap, ◌∙◌, subst, arith}
use Rattle.std.specs.List.{AllByRecursion}
use Rattle.model_tree.specs.Syntax.{Program}
use Rattle.model_text.specs.Canonical.{canonical}
use Rattle.model_text.specs.Scripts.{most_bytes, script_of}
use Rattle.law_canonical.proofs.Whole.{spelled-again}
use Rattle.model_work.specs.Work.{group_size, delay, numbers_from, script}
use Rattle.law_journal.specs.Program.{program}
use Rattle.law_journal.proofs.Tasks.{delay-short, group-small, numbers-below}
use Rattle.law_journal.proofs.Lines.{meant, parts}
use Rattle.law_journal.proofs.Standing.{all-fit, all-nest}
use Rattle.law_journal.proofs.Meanings.{meaning}
use Rattle.law_journal.proofs.WorkBodies.{program-of}
use Rattle.law_journal.proofs.Texts.{program-written, script-short}

canonical-read : (seed : ℕ) → length (canonical (program seed)) ≤ most_bytes → script_of (canonical (program seed)) ≡ Ok (program seed)
canonical-read seed =
    let tasks : List ℕ = numbers_from 1 (group_size seed) in
    let below : AllByRecursion (λ task. task < 1000) tasks = numbers-below 1000 1 (group_size seed) (omega (arith, group-small seed)) in
    subst (λ (p : Program). length (canonical p) ≤ most_bytes → script_of (canonical p) ≡ Ok p) (program-of seed)
    (spelled-again 1 (parts (delay seed) tasks) (meant (delay seed) tasks) refl (all-nest (delay seed) tasks) (all-fit (delay seed) tasks)
    (meaning (delay seed) (delay-short seed) tasks below))

pub script-read : (seed : ℕ) → script_of (script seed) ≡ Ok (program seed)
script-read seed =
    ap script_of (sym (program-written seed))
    ∙ canonical-read seed (subst (λ (text : List ℕ). length text ≤ most_bytes) (sym (program-written seed)) (script-short seed))
