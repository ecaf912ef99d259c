-- The first byte tells which piece it is.
use Rattle.std.proofs.Common.{◌≡◌, Bool, true, false, ◌&&◌, eqb, get_or, slice_index, drop, refl, sym, ◌∙◌, arith}
use Rattle.std.specs.Char.{is_ascii_digit}
use Rattle.std.proofs.lemmas.Bool.{and_left, and_right}
use Rattle.std.proofs.lemmas.Bool.Decides.{nat_tests}
use Rattle.model_text.specs.Letters.{is_space, is_hash, is_quote}
use Rattle.model_text.specs.Tokens.{piece_tokens}
use Rattle.aio_lex.proofs.SaidLemmas.{slice_rest}
use Rattle.aio_lex.proofs.FrontLemmas.{first-space, first-hash, first-quote, first-b, first-digit, first-word, first-other}
use Rattle.aio_lex.proofs.front.read_front.Goals as goal
use Rattle.aio_lex.proofs.front.read_front.Goals.{in_default-via-in-98+else-opens_bytes, in_default-via-in_default+then-first-lt48}
use Rattle.aio_lex.proofs.front.read_front.Goals.{in_default-via-in_default+else-first-lt48+else-first-lt58}

pub returns-in-32 : goal.returns-in-32
unfolding piece_tokens
returns-in-32 c = rw (first-space c.args.rest.now c.requires.some c.in-32.is) (refl, refl)

pub returns-in-35 : goal.returns-in-35
returns-in-35 c = rw (first-hash c.args.rest.now c.requires.some c.in-35.is) c.comment.ensures

pub returns-in-34 : goal.returns-in-34
returns-in-34 c =
    let behind = slice_rest 1 c.args.rest.now in
    rw (first-quote c.args.rest.now c.requires.some c.in-34.is) (rw behind at c.literal.ensures)

pub returns-in-98 : goal.returns-in-98
returns-in-98 c =
    let behind = slice_rest 2 c.args.rest.now in
    let quote = sym c.opens_bytes.ensures.value ∙ c.if-opens_bytes.true in
    rw (first-b c.args.rest.now c.requires.some c.in-98.is quote) (rw behind at c.literal-in-98.ensures)

pub returns-in-48-to-57 : goal.returns-in-48-to-57
returns-in-48-to-57 c =
    let digit : is_ascii_digit (get_or c.args.rest.now 0 0) ≡ true = grind (arith, nat_tests) in
    rw (first-digit c.args.rest.now c.requires.some digit) c.numeral.ensures

pub returns-in_default : goal.returns-in_default
returns-in_default c =
    let rest = c.args.rest.now in
    let digit : is_ascii_digit (get_or rest 0 0) ≡ false =
    elim c.in_default.branch [
      | in_default-via-in-98+else-opens_bytes w ↦ grind (arith, nat_tests)
      | in_default-via-in_default+then-first-lt48 w ↦ grind (arith, nat_tests)
      | in_default-via-in_default+else-first-lt48+else-first-lt58 w ↦ grind (arith, nat_tests)
    ] in
    let quoted : Bool = is_quote (slice_index (drop 1 rest) 0) in
    let starts : Bool = eqb (get_or rest 0 0) 98 in
    let bytes : (starts && quoted) ≡ false =
    elim c.in_default.branch [
      | in_default-via-in-98+else-opens_bytes w ↦ and_right starts quoted (sym w.opens_bytes.ensures.value ∙ w.if-opens_bytes.false)
      | in_default-via-in_default+then-first-lt48 w ↦ and_left starts quoted (grind (arith, nat_tests))
      | in_default-via-in_default+else-first-lt48+else-first-lt58 w ↦ and_left starts quoted (grind (arith, nat_tests))
    ] in
    let word = sym c.is_word.ensures ∙ c.if-is_word.true in
    rw (first-word rest c.requires.some word digit bytes) c.word.ensures

pub returns-in_default-2 : goal.returns-in_default-2
returns-in_default-2 c =
    let rest = c.args.rest.now in
    let others : (is_space (get_or rest 0 0) ≡ false) × (is_hash (get_or rest 0 0) ≡ false) × (is_quote (get_or rest 0 0) ≡ false) =
    elim c.in_default.branch [
      | in_default-via-in-98+else-opens_bytes w ↦ (grind (arith, nat_tests), grind (arith, nat_tests), grind (arith, nat_tests))
      | in_default-via-in_default+then-first-lt48 w ↦ (grind (arith, nat_tests), grind (arith, nat_tests), grind (arith, nat_tests))
      | in_default-via-in_default+else-first-lt48+else-first-lt58 w ↦
          (grind (arith, nat_tests), grind (arith, nat_tests), grind (arith, nat_tests))
    ] in
    let word = sym c.is_word.ensures ∙ c.if-is_word.false in
    rw (first-other rest c.requires.some others.0 others.1 others.2 word) c.punctuation.ensures
