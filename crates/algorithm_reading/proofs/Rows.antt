-- Items and arguments between commas.
use Rattle.std.proofs.Common.{◌≡◌, Bool, true, false, List, [], ◌∷◌, ◌++◌, Option, Some, None, map, refl, ap, ◌∙◌, sym, append_assoc}
use Rattle.std.specs.Prelude.{option_and_then, option_map, if◌then◌else◌}
use Rattle.model_tree.specs.Syntax.{Name}
use Rattle.model_text.specs.declared.symbol.Symbol.TheVariants as symbol
use Rattle.model_text.specs.Words.{Lexeme, Named, Sign, is_sign}
use Rattle.model_text.specs.Cutting.{Pieces, pieces_from, parts, with_front, depth_behind, ends_operand}
use Rattle.model_text.specs.Terms.{Term}
use Rattle.model_text.specs.Levels.{Parser, all_of, bare_name, with_bare, from_bare, disjunction}
use Rattle.algorithm_reading.specs.Operands.{Operand, capped, call, call_of}
use Rattle.algorithm_reading.specs.Pending.{no_loose}
use Rattle.algorithm_reading.specs.Reader.{Arguments, AtNot}
use Rattle.algorithm_reading.proofs.Options.{map-map, map-ap}
use Rattle.algorithm_reading.proofs.Capping.{call-capped, all_of-capped}
use Rattle.algorithm_reading.proofs.Levels.{keeping, comma, row_pieces, row_from}
use Rattle.algorithm_reading.proofs.Fresh.{fresh-loose}
use Rattle.algorithm_reading.proofs.Passes.{MovesPast}
use Rattle.algorithm_reading.proofs.Meaning.{expression, contents, kind_contents, behind_kind, kind_pieces, behind_kind_contents, or_nothing, slots_term}

-- what is built of terms is built of operands
module _ (build : List Term → Term) (kept : List Operand → Operand) (same : (all : List Term) → capped (build all) ≡ kept (map capped all))
    (inside : Parser Term) where
  pub all-kept : (slots : List (List Lexeme)) → option_map capped (option_map build (all_of inside slots)) ≡ option_map kept (all_of (keeping inside) slots)
  all-kept slots =
      map-map build capped (all_of inside slots)
      ∙ (map-ap (λ all. capped (build all)) (λ all. kept (map capped all)) (all_of inside slots) same
      ∙ (sym (map-map (map capped) kept (all_of inside slots)) ∙ ap (option_map kept) (all_of-capped inside slots)))

-- the first of some operands, and the others
pub first-of : (kept : List Operand → Operand) (items : List Operand) (first : Option Operand) (others : Option (List Operand))
    → option_map (λ all. kept (items ++ all)) (option_and_then (λ item. option_map (λ all. item ∷ all) others) first)
    ≡ option_and_then (λ item. option_map (λ all. kept (items ++ item ∷ all)) others) first
first-of kept items None others = refl
first-of kept items (Some item) None = refl
first-of kept items (Some item) (Some all) = refl

module _ (build : List Term → Term) (kept : List Operand → Operand) (same : (all : List Term) → capped (build all) ≡ kept (map capped all))
    (inside : Parser Term) where
  pub row-kept : (cut : Pieces Lexeme) → option_map capped (option_map build (all_of inside (cut.first ∷ map (λ other. other.1) cut.others)))
      ≡ row_pieces kept [] (keeping inside) (keeping inside) cut
  row-kept cut =
      all-kept build kept same inside (cut.first ∷ map (λ other. other.1) cut.others)
      ∙ first-of kept [] (keeping inside cut.first) (all_of (keeping inside) (map (λ other. other.1) cut.others))

  -- all that stands in a bracket
  pub parts-kept : (lexemes : List Lexeme) → option_map capped (option_map build (all_of inside (parts lexemes)))
      ≡ or_nothing (Some (kept [])) (row_from kept [] (keeping inside) 0 false (keeping inside)) lexemes
  parts-kept [] = ap Some (same [])
  parts-kept (x ∷ lexemes) = row-kept (pieces_from comma 0 false (x ∷ lexemes))

-- ---- a comma
module _ (kept : List Operand → Operand) (items : List Operand) (later : Parser Operand) (f : Parser Operand) (b : Bool) where
  pub comma-ends : f [] ≡ None → MovesPast (Sign symbol.Comma) (row_from kept items later 0 b f) (λ rest. None)
  comma-ends e = record { at = λ rest. ap (option_and_then _) e }

  again : (item : Operand) (first : Option Operand) (others : Option (List Operand))
      → option_map (λ all. kept (items ++ item ∷ all)) (option_and_then (λ next. option_map (λ all. next ∷ all) others) first)
      ≡ option_and_then (λ next. option_map (λ all. kept ((items ++ item ∷ []) ++ next ∷ all)) others) first
  again item None others = refl
  again item (Some next) None = refl
  again item (Some next) (Some all) = ap (λ list. Some (kept list)) (sym (append_assoc items (item ∷ []) (next ∷ all)))

  pub comma-goes_on : (item : Operand) → f [] ≡ Some item
      → MovesPast (Sign symbol.Comma) (row_from kept items later 0 b f) (row_from kept (items ++ item ∷ []) later 0 false later)
  comma-goes_on item e = record {
    at = λ rest.
        let cut : Pieces Lexeme = pieces_from comma 0 false rest in
        ap (option_and_then (λ first. option_map (λ others. kept (items ++ first ∷ others)) (all_of later (cut.first ∷ map (λ other. other.1) cut.others)))) e
        ∙ again item (later cut.first) (all_of later (map (λ other. other.1) cut.others));
  }

-- ---- a bare name
module _ (within : Parser Term) (name : Name) (bare : Option Name) (arguments : List Operand) where
  kind-found : (kind : Name) (first : List Lexeme) (others : List (Lexeme × List Lexeme))
      → option_map capped (option_map (slots_term within name) (from_bare (disjunction within) [] ((Named kind ∷ first) ∷ map (λ other. other.1) others)))
      ≡ behind_kind within (call_of name (Some kind)) first others
  kind-found kind [] others =
      ap (option_map capped) (map-map (with_bare [] kind) (slots_term within name) (all_of (disjunction within) (map (λ other. other.1) others)))
      ∙ all-kept (call name (Some kind)) (call_of name (Some kind)) (call-capped name (Some kind)) (disjunction within) (map (λ other. other.1) others)
  kind-found kind (x ∷ first) others = refl

  pub at-kind : (kind : Name)
      → MovesPast (Named kind) (kind_contents within (Arguments name bare arguments)) (behind_kind_contents within kind (Arguments name bare arguments))
  at-kind kind = record {
    at = λ rest. kind-found kind (pieces_from comma 0 true rest).first (pieces_from comma 0 true rest).others;
  }

  none-at : (x : Lexeme) (found : Option Lexeme) (cut : Pieces Lexeme) → ((q : List Lexeme) → bare_name (x ∷ q) ≡ None)
      → option_map capped
      (option_map (slots_term within name)
      (from_bare (disjunction within) [] ((with_front found x cut).first ∷ map (λ other. other.1) (with_front found x cut).others))) ≡ None
  none-at x None cut e =
      ap (λ found. option_map capped
      (option_map (slots_term within name)
      (option_and_then (λ kind. option_map (with_bare [] kind) (all_of (disjunction within) (map (λ other. other.1) cut.others))) found))) (e cut.first)
  none-at x (Some at) cut e = refl

  pub at-kind-other : (x : Lexeme) → ((q : List Lexeme) → bare_name (x ∷ q) ≡ None)
      → MovesPast x (kind_contents within (Arguments name bare arguments)) (λ rest. None)
  at-kind-other x e = record {
    at = λ rest. none-at x (comma false x) (pieces_from comma (depth_behind 0 x) (ends_operand x) rest) e;
  }

  -- ---- behind it
  pub behind-comma : (kind : Name)
      → MovesPast (Sign symbol.Comma) (behind_kind_contents within kind (Arguments name bare arguments))
      (contents within (Arguments name (Some kind) []) 0 false (expression within (AtNot no_loose)))
  behind-comma kind = record {
    at = λ rest.
        let cut : Pieces Lexeme = pieces_from comma 0 false rest in
        first-of (call_of name (Some kind)) [] (keeping (disjunction within) cut.first)
        (all_of (keeping (disjunction within)) (map (λ other. other.1) cut.others))
        ∙ ap (λ f. row_from (call_of name (Some kind)) [] (keeping (disjunction within)) 0 false f rest) (fresh-loose within);
  }

  pub behind-other : (kind : Name) (x : Lexeme) → is_sign symbol.Comma x ≡ false
      → MovesPast x (behind_kind_contents within kind (Arguments name bare arguments)) (λ rest. None)
  behind-other kind x e = record {
    at = λ rest. ap
        (λ test. kind_pieces within (call_of name (Some kind))
        (with_front (if test then Some x else None) x (pieces_from comma (depth_behind 0 x) (ends_operand x) rest))) e;
  }
