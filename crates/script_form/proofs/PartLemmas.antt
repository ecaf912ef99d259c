-- Parts between commas, one lexeme after another.
use Rattle.std.proofs.Common.{◌≡◌, ℕ, zero, suc, pred, ◌+◌, ◌-◌, ◌<◌, ◌≤◌, Bool, true, false, ◌&&◌, nat_eq, cond, List, [], ◌∷◌, ◌++◌, Some, None, length}
use Rattle.std.proofs.Common.{get_or, take, drop, map, refl, sym, ap, ◌∙◌, arith, append_assoc, append-nil}
use Rattle.std.proofs.Math.Dec.{eqb-suc-zero}
use Rattle.std.proofs.lemmas.Bool.{false≢true}
use Rattle.std.proofs.lemmas.List.{drop_more, take_more, map-append, length-drop, get_or-drop}
use Rattle.model_text.specs.declared.symbol.Symbol.TheVariants as symbol
use Rattle.model_text.specs.Words as plain
use Rattle.model_text.specs.Words.{is_sign}
use Rattle.model_text.specs.Cutting.{Cutter, Pieces, pieces_from, cut_outside, with_front, depth_behind, ends_operand}
use Rattle.script_term.specs.declared.lexeme.Lexeme.{Lexeme}
use Rattle.script_term.specs.Lexeme.{plain_lexeme}

abbrev at_comma : Cutter plain.Lexeme
at_comma behind at = cond (is_sign symbol.Comma at) (Some at) None

-- the parts of lexemes before which so many brackets are open
abbrev pub slots : ℕ → List plain.Lexeme → List (List plain.Lexeme)
slots depth lexemes =
    let cut = pieces_from at_comma depth false lexemes in cut.first ∷ map (λ other. other.1) cut.others

-- what stands before the first of them
abbrev pub fronted : List plain.Lexeme → List (List plain.Lexeme) → List (List plain.Lexeme)
fronted before [] = []
fronted before (first ∷ others) = (before ++ first) ∷ others

-- a comma doesn't ask what stands before it
same_behind : (depth : ℕ) (behind : Bool) (lexemes : List plain.Lexeme) → pieces_from at_comma depth behind lexemes ≡ pieces_from at_comma depth false lexemes
same_behind depth behind [] = refl
same_behind zero behind (lexeme ∷ lexemes) = refl
same_behind (suc depth) behind (lexeme ∷ lexemes) = refl

behind_comma : (lexeme : plain.Lexeme) (lexemes : List plain.Lexeme) → is_sign symbol.Comma lexeme ≡ true → slots 0 (lexeme ∷ lexemes) ≡ []
    ∷ slots (depth_behind 0 lexeme) lexemes
behind_comma lexeme lexemes comma =
    let rest = pieces_from at_comma (depth_behind 0 lexeme) (ends_operand lexeme) lexemes in
    let shown : Pieces plain.Lexeme → List (List plain.Lexeme) = λ cut. cut.first ∷ map (λ other. other.1) cut.others in
    ap (λ b. shown (with_front (cond b (Some lexeme) None) lexeme rest)) comma
    ∙ ap (λ cut. [] ∷ shown cut) (same_behind (depth_behind 0 lexeme) (ends_operand lexeme) lexemes)

behind_other : (depth : ℕ) (lexeme : plain.Lexeme) (lexemes : List plain.Lexeme) → cut_outside depth at_comma false lexeme ≡ None
    → slots depth (lexeme ∷ lexemes) ≡ fronted (lexeme ∷ []) (slots (depth_behind depth lexeme) lexemes)
behind_other depth lexeme lexemes none =
    let rest = pieces_from at_comma (depth_behind depth lexeme) (ends_operand lexeme) lexemes in
    let shown : Pieces plain.Lexeme → List (List plain.Lexeme) = λ cut. cut.first ∷ map (λ other. other.1) cut.others in
    ap (λ cut. shown (with_front cut lexeme rest)) none
    ∙ ap (λ cut. fronted (lexeme ∷ []) (shown cut)) (same_behind (depth_behind depth lexeme) (ends_operand lexeme) lexemes)

rest_at : (all : List Lexeme) (at : ℕ) (lexeme : Lexeme) → at < length all → lexeme ≡ get_or all at lexeme → map plain_lexeme (drop at all)
    ≡ plain_lexeme lexeme ∷ map plain_lexeme (drop (at + 1) all)
rest_at all at lexeme within is =
    ap (map plain_lexeme) (drop_more all at lexeme within)
    ∙ ap (λ first. plain_lexeme first ∷ map plain_lexeme (drop (at + 1) all)) (sym is)

-- one more lexeme of a slice
slice_more : (all : List Lexeme) (start at : ℕ) (lexeme : Lexeme) → start ≤ at → at < length all → lexeme ≡ get_or all at lexeme
    → take (at + 1 - start) (drop start all) ≡ take (at - start) (drop start all) ++ lexeme ∷ []
slice_more all start at lexeme some within is =
    let n : ℕ = at - start in
    let more : at + 1 - start ≡ n + 1 = omega arith in
    let place : start + n ≡ at = omega arith in
    ap (λ k. take k (drop start all)) more
    ∙ take_more (drop start all) n lexeme (omega (arith, length-drop start all))
    ∙ ap (λ x. take n (drop start all) ++ x ∷ []) (get_or-drop start all n lexeme ∙ ap (λ k. get_or all k lexeme) place ∙ sym is)

is_cut-cases : (depth : ℕ) (lexeme : plain.Lexeme) → (nat_eq depth 0 && is_sign symbol.Comma lexeme) ≡ true → (depth ≡ 0) × (is_sign symbol.Comma lexeme ≡ true)
is_cut-cases zero lexeme e = (refl, e)
is_cut-cases (suc depth) lexeme e =
    absurd (false≢true (sym (ap (λ b. b && is_sign symbol.Comma lexeme) (eqb-suc-zero depth)) ∙ e))

not_cut : (depth : ℕ) (lexeme : plain.Lexeme) → (nat_eq depth 0 && is_sign symbol.Comma lexeme) ≡ false → cut_outside depth at_comma false lexeme ≡ None
not_cut zero lexeme e = ap (λ b. cond b (Some lexeme) None) e
not_cut (suc depth) lexeme e = refl

-- a part ends
pub part_ends : (all : List Lexeme) (part : List plain.Lexeme) (at depth : ℕ) (lexeme : Lexeme) → at < length all → lexeme ≡ get_or all at lexeme
    → (nat_eq depth 0 && is_sign symbol.Comma (plain_lexeme lexeme)) ≡ true → fronted part (slots depth (map plain_lexeme (drop at all))) ≡ part
    ∷ slots (depth_behind depth (plain_lexeme lexeme)) (map plain_lexeme (drop (at + 1) all))
part_ends all part at depth lexeme within is cuts =
    let (none, comma) = is_cut-cases depth (plain_lexeme lexeme) cuts in
    let rest : List plain.Lexeme = map plain_lexeme (drop (at + 1) all) in
    ap (λ xs. fronted part (slots depth xs)) (rest_at all at lexeme within is)
    ∙ ap (λ k. fronted part (slots k (plain_lexeme lexeme ∷ rest))) none
    ∙ ap (fronted part) (behind_comma (plain_lexeme lexeme) rest comma)
    ∙ ap (λ xs. xs ∷ slots (depth_behind 0 (plain_lexeme lexeme)) rest) (append-nil part)
    ∙ ap (λ k. part ∷ slots (depth_behind k (plain_lexeme lexeme)) rest) (sym none)

-- a part goes on
pub part_goes_on : (all : List Lexeme) (start at depth : ℕ) (lexeme : Lexeme) → start ≤ at → at < length all → lexeme ≡ get_or all at lexeme
    → (nat_eq depth 0 && is_sign symbol.Comma (plain_lexeme lexeme)) ≡ false
    → fronted (map plain_lexeme (take (at - start) (drop start all))) (slots depth (map plain_lexeme (drop at all)))
    ≡ fronted (map plain_lexeme (take (at + 1 - start) (drop start all)))
    (slots (depth_behind depth (plain_lexeme lexeme)) (map plain_lexeme (drop (at + 1) all)))
part_goes_on all start at depth lexeme some within is cuts =
    let rest : List plain.Lexeme = map plain_lexeme (drop (at + 1) all) in
    let part : List plain.Lexeme = map plain_lexeme (take (at - start) (drop start all)) in
    let behind : List (List plain.Lexeme) = slots (depth_behind depth (plain_lexeme lexeme)) rest in
    ap (λ xs. fronted part (slots depth xs)) (rest_at all at lexeme within is)
    ∙ ap (fronted part) (behind_other depth (plain_lexeme lexeme) rest (not_cut depth (plain_lexeme lexeme) cuts))
    ∙ fronted-fronted part (plain_lexeme lexeme ∷ []) behind
    ∙ ap (λ xs. fronted xs behind)
    (sym (ap (map plain_lexeme) (slice_more all start at lexeme some within is)
    ∙ map-append plain_lexeme (take (at - start) (drop start all)) (lexeme ∷ [])))
  where
    fronted-fronted : (xs ys : List plain.Lexeme) (all : List (List plain.Lexeme)) → fronted xs (fronted ys all) ≡ fronted (xs ++ ys) all
    fronted-fronted xs ys [] = refl
    fronted-fronted xs ys (first ∷ others) = ap (λ zs. zs ∷ others) (sym (append_assoc xs ys first))

pub part_ended : (done : List (List plain.Lexeme)) (part : List plain.Lexeme) (all : List Lexeme) (at depth : ℕ) (rest : List plain.Lexeme) → done ++ part
    ∷ slots depth rest ≡ (done ++ part ∷ []) ++ fronted (map plain_lexeme (take (at - at) (drop at all))) (slots depth rest)
part_ended done part all at depth rest =
    let none : at - at ≡ 0 = omega arith in
    sym (append_assoc done (part ∷ []) (slots depth rest))
    ∙ ap (λ n. (done ++ part ∷ []) ++ fronted (map plain_lexeme (take n (drop at all))) (slots depth rest)) (sym none)

pred-le : (n : ℕ) → pred n ≤ n + 1
pred-le zero = omega arith
pred-le (suc n) = omega arith

pub depth_behind-le : (depth : ℕ) (lexeme : plain.Lexeme) → depth_behind depth lexeme ≤ depth + 1
depth_behind-le depth (plain.Sign symbol.LeftParenthesis) = omega arith
depth_behind-le depth (plain.Sign symbol.LeftBracket) = omega arith
depth_behind-le depth (plain.Sign symbol.RightParenthesis) = pred-le depth
depth_behind-le depth (plain.Sign symbol.RightBracket) = pred-le depth
depth_behind-le depth (plain.Sign symbol) = omega arith
depth_behind-le depth (plain.Reserved reserved) = omega arith
depth_behind-le depth (plain.Named name) = omega arith
depth_behind-le depth (plain.Number number) = omega arith
depth_behind-le depth (plain.Texts text) = omega arith
depth_behind-le depth (plain.Octets bytes) = omega arith
