-- From the two passes over a text to its script.
use Rattle.std.proofs.Common.{◌≡◌, refl, ap, ap₂, ◌∙◌, sym, ℕ, ◌+◌, ◌<◌, ◌≤◌, List, [], ◌∷◌, Ok, Err, map, length}
use Rattle.std.proofs.lemmas.Bool.{le-leb, lt-leb}
use Rattle.std.specs.Prelude.{if◌then◌else◌}
use Rattle.model_value.specs.Lines.{lines_of}
use Rattle.model_tree.specs.Syntax.{Coroutine, Program}
use Rattle.model_text.specs.declared.cause.Cause.TheVariants.{TooLong}
use Rattle.model_text.specs.FirstPass.{Fault, fault_at, Numbered, first_pass}
use Rattle.model_text.specs.Forms.{Spelled}
use Rattle.model_text.specs.Scripts.{most_bytes, coroutine, judged_program, profile_in, script_of, script_of_lines, script_of_forms, script_of_parts}
use Rattle.model_text.specs.SecondPass.{ScriptParts, parts_of, second_pass}
use Rattle.model_text.specs.TextLines.{text_lines}
use Rattle.aio_program.specs.Line.{plain_part}
use Rattle.aio_program.specs.declared.line.NamedPart.{NamedPart}
use Rattle.aio_script.proofs.Counts.{counts-alike}

pub too_long : (text : List ℕ) → most_bytes < length text → script_of text ≡ fault_at 1 TooLong
unfolding script_of
too_long text long =
    ap (λ fits. if fits then script_of_lines (text_lines text) else fault_at 1 TooLong) (lt-leb (length text) most_bytes long)

not_long : (text : List ℕ) → length text ≤ most_bytes → script_of text ≡ script_of_lines (text_lines text)
unfolding script_of
not_long text short =
    ap (λ fits. if fits then script_of_lines (text_lines text) else fault_at 1 TooLong) (le-leb (length text) most_bytes short)

pub from_forms : (text : List ℕ) (forms : List (Numbered Spelled)) (last : ℕ) → length text ≤ most_bytes → first_pass (text_lines text) ≡ Ok forms → last
    ≡ length (lines_of text) + 1 → script_of text ≡ script_of_parts last (parts_of forms)
from_forms text forms last short passed counted =
    not_long text short
    ∙ ap (script_of_forms (length (text_lines text) + 1)) passed
    ∙ ap (λ (n : ℕ). script_of_parts n (parts_of forms)) (ap (λ (n : ℕ). n + 1) (counts-alike text) ∙ sym counted)

pub from_fault : (text : List ℕ) (fault : Fault) → length text ≤ most_bytes → first_pass (text_lines text) ≡ Err fault → script_of text ≡ Err fault
from_fault text fault short failed =
    not_long text short ∙ ap (script_of_forms (length (text_lines text) + 1)) failed

again : (parts : List NamedPart) → map (λ part. coroutine (plain_part part)) parts ≡ map coroutine (map plain_part parts)
again [] = refl
again (part ∷ parts) = ap (λ others. coroutine (plain_part part) ∷ others) (again parts)

pub from_parts : (last profile : ℕ) (parts : ScriptParts (Numbered Spelled)) (named : List NamedPart) (coroutines : List Coroutine) (script : Program)
    → second_pass last parts.coroutines ≡ Ok (map plain_part named) → profile ≡ profile_in parts.front → coroutines
    ≡ map (λ part. coroutine (plain_part part)) named → script ≡ record { profile = profile; coroutines = coroutines } → script_of_parts last parts
    ≡ Ok script
from_parts last profile parts named coroutines script passed of_front all is =
    ap (judged_program (profile_in parts.front)) passed
    ∙ ap Ok (ap₂ (λ (p : ℕ) (cs : List Coroutine). record { profile = p; coroutines = cs }) (sym of_front) (sym (all ∙ again named)) ∙ sym is)
