-- The first entry of a text.
use Rattle.std.proofs.Common.{◌≡◌, ℕ, ◌+◌, ◌<◌, Bool, true, false, ◌||◌, List, [], ◌∷◌, ◌++◌, length, refl, ap, ◌∙◌, arith, append_assoc, ltb}
use Rattle.std.proofs.lemmas.Bool.{lt-ltb, ltb-true}
use Rattle.model_value.specs.Lines.{lines_of}
use Rattle.model_wire.specs.Journal.{Entry, Refused}
use Rattle.model_wire.specs.JournalText.{entries_from, entry_of, most_line, too_long}
use Rattle.law_entries.specs.Begins.{BeginAlike, has_newline}
use Rattle.law_entries.proofs.Lines.{lines_ended, lines_begun, first_newline, BeginsLong, HasLine}

pub refused_long : (number : ℕ) (line : List ℕ) → most_line < length line → entry_of number line ≡ Refused number too_long
refused_long number line long = rw (lt-ltb most_line (length line) long) refl

entries_ended : (number : ℕ) (held more : List ℕ) (line : HasLine held)
    → entries_from number (lines_of (held ++ more)) ≡ entry_of number line.front ∷ entries_from (number + 1) (lines_of (line.rest ++ more))
entries_ended number held more line =
    ap (λ (b : List ℕ). entries_from number (lines_of (b ++ more))) line.is
    ∙ ap (λ (text : List ℕ). entries_from number (lines_of text)) (append_assoc line.front (10 ∷ line.rest) more)
    ∙ ap (entries_from number) (lines_ended line.front (line.rest ++ more) line.none)

entries_long : (number : ℕ) (held more : List ℕ) → has_newline held ≡ false → most_line < length held
    → (others : List Entry) × (entries_from number (lines_of (held ++ more)) ≡ Refused number too_long ∷ others)
entries_long number held more none long =
    let begun = lines_begun held more none (omega (arith, long)) in (
      entries_from (number + 1) begun.others,
      ap (entries_from number) begun.is
          ∙ ap (λ (e : Entry). e ∷ entries_from (number + 1) begun.others) (refused_long number begun.first (omega (arith, long, begun.long))),
    )

alike_by : (number : ℕ) (held more : List ℕ) (b : Bool) → has_newline held ≡ b → (b || ltb most_line (length held)) ≡ true
    → BeginAlike (entries_from number (lines_of (held ++ []))) (entries_from number (lines_of (held ++ more)))
alike_by number held more true is all =
    let line = first_newline held is in
    record {
      first = entry_of number line.front;
      others = entries_from (number + 1) (lines_of (line.rest ++ []));
      rest = entries_from (number + 1) (lines_of (line.rest ++ more));
      one_is = entries_ended number held [] line;
      other_is = entries_ended number held more line;
    }
alike_by number held more false is long =
    let within : most_line < length held = ltb-true most_line (length held) long in
    let one = entries_long number held [] is within in
    let other = entries_long number held more is within in
    record { first = Refused number too_long; others = one.0; rest = other.0; one_is = one.1; other_is = other.1 }

-- what is held of a line that is whole decides the first entry, whatever comes behind
pub entries_alike : (number : ℕ) (held more : List ℕ) → (has_newline held || ltb most_line (length held)) ≡ true
    → BeginAlike (entries_from number (lines_of (held ++ []))) (entries_from number (lines_of (held ++ more)))
entries_alike number held more whole = alike_by number held more (has_newline held) refl whole
