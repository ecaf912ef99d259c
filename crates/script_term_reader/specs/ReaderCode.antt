-- What a reader of an expression knows as plain values that have codes. By it types of code may be seen as what a reader knows.
-- Source: the definition of a reader (algorithm_reading, specs/Reader.antt).
use Rattle.std.specs.Prelude.{◌≡◌, ℕ, List, [], ◌∷◌, Option, None, slice_index_or, refl}
use Rattle.std.specs.Coded.{Coded, code_by, coded_ℕ, coded×, coded_list, coded_option}
use Rattle.model_tree.specs.Syntax.{Name}
use Rattle.algorithm_reading.specs.Operands.{Operand, TooHigh}
use Rattle.algorithm_reading.specs.Pending.{Loose, Tight, no_loose, no_tight}
use Rattle.algorithm_reading.specs.Reader.{Bracket, Group, Item, Items, Arguments, Open, TermProgress, Start, AtNot, AtOperand, BehindName, BehindOperand}
use Rattle.algorithm_reading.specs.Reader.{AtKind}
use Rattle.algorithm_reading.specs.Reader.{BehindKind}
use Rattle.script_term_reader.specs.PendingCode.{coded_operand, coded_loose, coded_tight}

abbrev coded_name : Coded Name
coded_name = coded_list coded_ℕ

-- ---- the number of the case, and what stands in any of them
abbrev BracketParts : Type 0
BracketParts = ℕ × (Operand × (List Operand × (Name × Option Name)))

abbrev bracket_parts : Bracket → BracketParts
bracket_parts Group = (0, (TooHigh, ([], ([], None))))
bracket_parts (Item sequence) = (1, (sequence, ([], ([], None))))
bracket_parts (Items items) = (2, (TooHigh, (items, ([], None))))
bracket_parts (Arguments name bare arguments) = (3, (TooHigh, (arguments, (name, bare))))

abbrev bracket_from : BracketParts → Bracket
bracket_from parts =
    slice_index_or (Group ∷ Item parts.1.0 ∷ Items parts.1.1.0 ∷ Arguments parts.1.1.1.0 parts.1.1.1.1 parts.1.1.0 ∷ []) parts.0 Group

pub bracket_again : (bracket : Bracket) → bracket_from (bracket_parts bracket) ≡ bracket
bracket_again Group = refl
bracket_again (Item sequence) = refl
bracket_again (Items items) = refl
bracket_again (Arguments name bare arguments) = refl

abbrev coded_bracket : Coded Bracket
coded_bracket =
    code_by BracketParts
    (coded× coded_ℕ
    (coded× coded_operand (coded× (coded_list coded_operand) (coded× coded_name (coded_option coded_name))))) bracket_parts bracket_from bracket_again

abbrev ProgressParts : Type 0
ProgressParts = ℕ × (Loose × (Tight × (Operand × Name)))

abbrev progress_parts : TermProgress → ProgressParts
progress_parts Start = (0, (no_loose, (no_tight, (TooHigh, []))))
progress_parts (AtNot loose) = (1, (loose, (no_tight, (TooHigh, []))))
progress_parts (AtOperand loose tight) = (2, (loose, (tight, (TooHigh, []))))
progress_parts (BehindName loose tight name) = (3, (loose, (tight, (TooHigh, name))))
progress_parts (BehindOperand loose tight operand) = (4, (loose, (tight, (operand, []))))
progress_parts AtKind = (5, (no_loose, (no_tight, (TooHigh, []))))
progress_parts (BehindKind kind) = (6, (no_loose, (no_tight, (TooHigh, kind))))

abbrev progress_from : ProgressParts → TermProgress
progress_from parts =
    slice_index_or (Start ∷ AtNot parts.1.0 ∷ AtOperand parts.1.0 parts.1.1.0 ∷ BehindName parts.1.0 parts.1.1.0 parts.1.1.1.1
    ∷ BehindOperand parts.1.0 parts.1.1.0 parts.1.1.1.0 ∷ AtKind ∷ BehindKind parts.1.1.1.1 ∷ []) parts.0 Start

pub progress_again : (progress : TermProgress) → progress_from (progress_parts progress) ≡ progress
progress_again Start = refl
progress_again (AtNot loose) = refl
progress_again (AtOperand loose tight) = refl
progress_again (BehindName loose tight name) = refl
progress_again (BehindOperand loose tight operand) = refl
progress_again AtKind = refl
progress_again (BehindKind kind) = refl

abbrev pub coded_progress : Coded TermProgress
coded_progress =
    code_by ProgressParts
    (coded× coded_ℕ (coded× coded_loose (coded× coded_tight (coded× coded_operand coded_name)))) progress_parts progress_from progress_again

abbrev pub coded_open : Coded Open
coded_open =
    code_by (Bracket × (Loose × Tight)) (coded× coded_bracket (coded× coded_loose coded_tight))
    (λ innermost. (innermost.bracket, (innermost.loose, innermost.tight)))
    (λ parts. record { bracket = parts.0; loose = parts.1.0; tight = parts.1.1 })
    (λ _. refl)
