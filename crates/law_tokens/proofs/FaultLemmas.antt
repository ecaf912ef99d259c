-- `tokens_of` answers exactly the first fault.
use Rattle.std.proofs.Common.{◌≡◌, ℕ, ◌+◌, ◌<◌, Bool, false, ◌⊎◌, inl, inr, List, [], ◌∷◌, ◌++◌, length, refl, sym, ap, ◌∙◌, arith, Result, Ok, Err}
use Rattle.std.proofs.Common.{append_assoc, subst}
use Rattle.std.specs.List.{flat_map}
use Rattle.std.proofs.lemmas.List.{length-append}
use Rattle.model_text.specs.Letters.{is_word, is_quote}
use Rattle.model_text.specs.Symbols.{symbol_text}
use Rattle.model_text.specs.Faults.{TokenFault, both_or_fault}
use Rattle.model_text.specs.Pieces.{Piece, Blank, Comment, Word, Numeral, Quoted, Unclosed, Punctuation, Stray, piece_text, pieces_of}
use Rattle.model_text.specs.Tokens.{Token, piece_tokens, tokens_in, tokens_of}
use Rattle.model_text.specs.Cuts.{BeginsWith, FirstIs, Fits, Cuts}
use Rattle.model_text.specs.FirstFaults.{FirstFault}
use Rattle.law_tokens.proofs.CutLemmas.{text-some, Cuts-pieces_of, Cuts-one}
use Rattle.law_tokens.proofs.PartLemmas.{both_ok}
use Rattle.law_tokens.proofs.LineLemmas.{read_pieces, tokens_in-Reads}

both_err : {A : Type 0} (first second : Result (List A) TokenFault) (fault : TokenFault) → both_or_fault first second ≡ Err fault
    → (first ≡ Err fault) ⊎ ((xs : List A) × (first ≡ Ok xs) × (second ≡ Err fault))
both_err (Ok xs) (Ok ys) fault e = cc
both_err (Ok xs) (Err found) fault e = inr (xs, refl, cc)
both_err (Err found) second fault e = inl (cc)

-- the pieces up to the first faulty one
record Faulty (column : ℕ) (pieces : List Piece) (fault : TokenFault) : Type 0 where
  before : List Piece
  piece : Piece
  behind : List Piece
  all : pieces ≡ before ++ piece ∷ behind
  tokens : List Token
  fine : tokens_in column before ≡ Ok tokens
  faulty : piece_tokens (column + length (flat_map piece_text before)) piece ≡ Err fault

further : (column : ℕ) (piece : Piece) (pieces : List Piece) (fault : TokenFault) (tokens : List Token) → piece_tokens column piece ≡ Ok tokens
    → Faulty (column + length (piece_text piece)) pieces fault → Faulty column (piece ∷ pieces) fault
further column piece pieces fault tokens e f =
    let place : column + length (flat_map piece_text (piece ∷ f.before)) ≡ (column + length (piece_text piece)) + length (flat_map piece_text f.before) =
    omega (arith, length-append (piece_text piece) (flat_map piece_text f.before)) in
    record {
      before = piece ∷ f.before;
      piece = f.piece;
      behind = f.behind;
      all = ap (λ others. piece ∷ others) f.all;
      tokens = tokens ++ f.tokens;
      fine = rw (e, f.fine) refl;
      faulty = ap (λ column. piece_tokens column f.piece) place ∙ f.faulty;
    }

faulty_in : (column : ℕ) (pieces : List Piece) (fault : TokenFault) → tokens_in column pieces ≡ Err fault → Faulty column pieces fault
faulty_in column [] fault e = cc
faulty_in column (piece ∷ pieces) fault e = by_piece (both_err (piece_tokens column piece) (tokens_in (column + length (piece_text piece)) pieces) fault e)
    (λ f. faulty_in (column + length (piece_text piece)) pieces fault f)
  where
    by_piece : (piece_tokens column piece
        ≡ Err fault) ⊎ ((xs : List Token) × (piece_tokens column piece ≡ Ok xs) × (tokens_in (column + length (piece_text piece)) pieces ≡ Err fault))
        → (tokens_in (column + length (piece_text piece)) pieces ≡ Err fault → Faulty (column + length (piece_text piece)) pieces fault)
        → Faulty column (piece ∷ pieces) fault
    by_piece (inl f) behind =
        let place : column + 0 ≡ column = omega arith in
        record {
          before = [];
          piece = piece;
          behind = pieces;
          all = refl;
          tokens = [];
          fine = refl;
          faulty = ap (λ column. piece_tokens column piece) place ∙ f;
        }
    by_piece (inr f) behind = further column piece pieces fault f.0 f.1 (behind f.2)

-- the first byte of a front
first_front : (test : ℕ → Bool) (answer : Bool) (front more : List ℕ) → FirstIs test answer (front ++ more) → FirstIs test answer front
first_front test answer [] more h = tt
first_front test answer (byte ∷ front) more h = h

begins_further : (bytes more text : List ℕ) → BeginsWith bytes text → BeginsWith (bytes ++ more) text
begins_further bytes more text b =
    (b.0 ++ more, ap (λ all. all ++ more) b.1 ∙ append_assoc text b.0 more)

regrouped : (text front more other : List ℕ) → BeginsWith ((text ++ front) ++ more) other → BeginsWith (text ++ (front ++ more)) other
regrouped text front more other b = (b.0, sym (append_assoc text front more) ∙ b.1)

-- what fits before more bytes fits before fewer, where the more are some
fits_front : (piece : Piece) (front more : List ℕ) → 0 < length more → Fits piece (front ++ more) → Fits piece front
fits_front Blank front more some f = tt
fits_front (Comment []) front more some f = absurd f
fits_front (Comment (first ∷ others)) front more some f =
    absurd (omega (arith, ap length f.1, length-append front more))
fits_front (Word text) front more some f =
    (f.0, first_front is_word false front more f.1, λ b. first_front is_quote false front more (f.2 b))
fits_front (Numeral text) front more some f = (f.0, first_front is_word false front more f.1)
fits_front (Quoted literal inside) front more some f = f
fits_front (Unclosed text) front more some f =
    absurd (omega (arith, ap length f.4, length-append front more))
fits_front (Punctuation symbol) front more some f =
    λ other b. f other (regrouped (symbol_text symbol) front more (symbol_text other) (begins_further (symbol_text symbol ++ front) more (symbol_text other) b))
fits_front (Stray byte) front more some f =
    (f.0, f.1, f.2, f.3, λ symbol b. f.4 symbol (begins_further (byte ∷ front) more (symbol_text symbol) b))

-- The bytes before a piece of a cut are cut alike.
record CutBefore (before : List Piece) (piece : Piece) (behind : List Piece) (line : List ℕ) : Type 0 where
  rest : List ℕ
  whole : line ≡ flat_map piece_text before ++ rest
  some : 0 < length rest
  cut : Cuts (flat_map piece_text before) before

cut_before : (before : List Piece) (piece : Piece) (behind : List Piece) (line : List ℕ) → Cuts line (before ++ piece ∷ behind)
    → CutBefore before piece behind line
cut_before [] piece behind line c = record {
  rest = line;
  whole = refl;
  some = omega (arith, text-some piece c.0 c.2, ap length c.1, length-append (piece_text piece) c.0);
  cut = refl;
}
cut_before (first ∷ before) piece behind line c =
    let b = cut_before before piece behind c.0 c.3 in
    let texts : List ℕ = flat_map piece_text before in
    let at_texts = let P : List ℕ → Type 0 = λ rest. Fits first rest in subst P b.whole c.2 in
    record {
      rest = b.rest;
      whole =
          c.1 ∙ ap (λ rest. piece_text first ++ rest) b.whole ∙ sym (append_assoc (piece_text first) texts b.rest);
      some = b.some;
      cut = (texts, refl, fits_front first texts b.rest b.some at_texts, b.cut);
    }

-- What is answered is the first fault.
pub FirstFault-tokens_of : (line : List ℕ) (fault : TokenFault) → tokens_of line ≡ Err fault → FirstFault line fault
unfolding tokens_of
FirstFault-tokens_of line fault e =
    let f = faulty_in 1 (pieces_of line) fault e in
    let cut = let P : List Piece → Type 0 = λ pieces. Cuts line pieces in subst P f.all (Cuts-pieces_of line) in
    let b = cut_before f.before f.piece f.behind line cut in
    record {
      before = f.before;
      piece = f.piece;
      behind = f.behind;
      cut = cut;
      tokens = f.tokens;
      reads = read_pieces 1 (flat_map piece_text f.before) f.before f.tokens b.cut f.fine;
      faulty = f.faulty;
    }

faulty_behind : (column : ℕ) (before : List Piece) (piece : Piece) (behind : List Piece) (tokens : List Token) (fault : TokenFault) → tokens_in column before
    ≡ Ok tokens → piece_tokens (column + length (flat_map piece_text before)) piece ≡ Err fault → tokens_in column (before ++ piece ∷ behind) ≡ Err fault
faulty_behind column [] piece behind tokens fault fine faulty =
    let place : column + 0 ≡ column = omega arith in
    let here = ap (λ column. piece_tokens column piece) (sym place) ∙ faulty in rw here refl
faulty_behind column (first ∷ before) piece behind tokens fault fine faulty =
    let both = both_ok (piece_tokens column first) (tokens_in (column + length (piece_text first)) before) tokens fine in
    let place : column + length (flat_map piece_text (first ∷ before)) ≡ (column + length (piece_text first)) + length (flat_map piece_text before) =
    omega (arith, length-append (piece_text first) (flat_map piece_text before)) in
    let there = ap (λ column. piece_tokens column piece) (sym place) ∙ faulty in
    rw (both.2, faulty_behind (column + length (piece_text first)) before piece behind both.1 fault both.3 there) refl

-- The first fault is answered.
pub tokens_of-FirstFault : (line : List ℕ) (fault : TokenFault) → FirstFault line fault → tokens_of line ≡ Err fault
unfolding tokens_of
tokens_of-FirstFault line fault f =
    let b = cut_before f.before f.piece f.behind line f.cut in
    let fine = ap (tokens_in 1) (Cuts-one (flat_map piece_text f.before) f.before b.cut) ∙ tokens_in-Reads 1 (flat_map piece_text f.before) f.tokens f.reads in
    ap (tokens_in 1) (sym (Cuts-one line (f.before ++ f.piece ∷ f.behind) f.cut)) ∙ faulty_behind 1 f.before f.piece f.behind f.tokens fault fine f.faulty
