-- The lines of coroutines whose lines spell their bodies are those of their canonical text.
use Rattle.std.proofs.Common.{◌≡◌, List, [], ◌∷◌, ◌++◌, map, flat_map, refl, sym, ap, ◌∙◌}
use Rattle.std.specs.List.{AllByRecursion}
use Rattle.model_text.specs.Forms.{Def, End}
use Rattle.model_text.specs.SecondPass.{Line, Part}
use Rattle.model_text.specs.Bodies.{body_in}
use Rattle.model_text.specs.Scripts.{coroutine}
use Rattle.law_canonical.specs.SpelledBodies.{SpellsBody}
use Rattle.law_canonical.specs.ProgramLines.{indented, statements_lines, coroutine_lines, coroutines_lines}
use Rattle.law_canonical.proofs.SpelledLines.{without_blocks, two-parts, spelled-lines}

body-lines : (lines : List Line) → SpellsBody lines → without_blocks (statements_lines (body_in lines) 1 ++ indented 0 End ∷ []) ≡ lines
body-lines lines s =
    two-parts (statements_lines (body_in lines) 1) (indented 0 End ∷ []) s.inner (End ∷ []) (spelled-lines s.spelled 1) refl ∙ sym s.split

abbrev pub part_lines : Part Line → List Line
part_lines part = Def part.name part.parameters ∷ part.lines

pub coroutines-again : (parts : List (Part Line)) → AllByRecursion (λ part. SpellsBody part.lines) parts
    → without_blocks (coroutines_lines (map coroutine parts)) ≡ flat_map part_lines parts
coroutines-again [] s = refl
coroutines-again (part ∷ parts) s =
    two-parts (coroutine_lines (coroutine part)) (coroutines_lines (map coroutine parts)) (part_lines part) (flat_map part_lines parts)
    (ap (λ l. Def part.name part.parameters ∷ l) (body-lines part.lines s.0)) (coroutines-again parts s.1)
