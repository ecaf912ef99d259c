use Rattle.std.proofs.Common.{◌≡◌, ℕ, ◌-◌, ◌==◌, false, [], ◌∷◌, List, map, string_bytes, codes, length, take, drop, get_or, refl, ap, sym, ◌∙◌}
use Rattle.std.proofs.lemmas.List.{take_rest}
use Rattle.std.specs.Option.{option_map}
use Rattle.std.specs.Str.{bytes_eq}
use Rattle.std.specs.declared.alloc.Global.{Global}
use Rattle.std.specs.declared.string.String.{String}
use Rattle.model_words.specs.Words.{joined}
use Rattle.aio_words.specs.Commands.{plain_command}
use Rattle.aio_words.specs.Given.{gathered}
use Rattle.aio_words.proofs.given.+command_from.Goals as goal

-- a word before others that has no value of its own
then_others : (rest : List (String Global)) (word : String Global) → word ≡ get_or rest 0 word → (length rest ≡ 1 → ⊥)
    → false ≡ (length rest == 0) → bytes_eq (string_bytes word) (codes "--turns") ≡ false
    → bytes_eq (string_bytes word) (codes "--record") ≡ false
    → joined (map string_bytes rest) ≡ string_bytes word ∷ joined (map string_bytes (drop 1 rest))
then_others [] word is more some other unlike = absurd (cc some)
then_others (first ∷ []) word is more some other unlike = absurd (more refl)
then_others (first ∷ second ∷ others) word is more some other unlike = rw (← is, other, unlike) refl

-- the words after the first
abbrev after : List (String Global) → List (List ℕ)
after rest = joined (map string_bytes (take (length rest - 1) (drop 1 rest)))

-- the same as a slice's text and the rest of it
word_then : (rest : List (String Global)) (word : String Global) (text : List ℕ) → word ≡ get_or rest 0 word → text ≡ string_bytes word
    → (length rest ≡ 1 → ⊥) → false ≡ (length rest == 0) → false ≡ bytes_eq text (codes "--turns")
    → false ≡ bytes_eq text (codes "--record") → joined (map string_bytes rest) ≡ text ∷ after rest
word_then rest word text is same more some other unlike =
    then_others rest word is more some (ap (λ (t : List ℕ). bytes_eq t (codes "--turns")) (sym same) ∙ sym other)
    (ap (λ (t : List ℕ). bytes_eq t (codes "--record")) (sym same) ∙ sym unlike)
    ∙ ap (λ (t : List ℕ). t ∷ joined (map string_bytes (drop 1 rest))) (sym same)
    ∙ ap (λ (others : List (String Global)). text ∷ joined (map string_bytes others)) (sym (take_rest rest 1))

pub returns-in_err-with_word-2-clause-command : goal.returns-in_err-with_word-2-clause-command
returns-in_err-with_word-2-clause-command t c =
    let on = word_then c.args.rest.now c.index-rest-0.result c.as_str-word.result.now c.index-rest-0.is c.as_str-word.ensures.value
    c.if-rest-eq1.false c.if-is_empty.ensures c.if-eq.ensures c.if-eq-2.ensures in
    ap (λ o. option_map plain_command o) c.from_residual-in_err-with_word-2.ensures
    ∙ sym (ap (gathered c.args.given) on ∙ c.in_err-with_word-2.ensures (after c.args.rest.now))

pub returns-in_ok-with_word-2-clause-command : goal.returns-in_ok-with_word-2-clause-command
returns-in_ok-with_word-2-clause-command t c =
    let on = word_then c.args.rest.now c.index-rest-0.result c.as_str-word.result.now c.index-rest-0.is c.as_str-word.ensures.value
    c.if-rest-eq1.false c.if-is_empty.ensures c.if-eq.ensures c.if-eq-2.ensures in
    c.command_from-else-eq-2.ensures.command ∙ sym (ap (gathered c.args.given) on ∙ c.in_ok-with_word-2.ensures (after c.args.rest.now))
