-- `pieces_of` gives the one cut of a line.
use Rattle.std.proofs.Common.{◌≡◌, ℕ, zero, suc, ◌-◌, ◌<◌, ◌≤◌, Bool, true, false, ◌&&◌, List, [], ◌∷◌, ◌++◌, length, drop, refl, sym, ap, ◌∙◌, arith, Option}
use Rattle.std.proofs.Common.{Some, None, eqb, slice_index, codes, append_assoc, subst}
use Rattle.std.proofs.lemmas.List.{length-append, append-nil}
use Rattle.std.proofs.Math.Seq.{drop-append_seam}
use Rattle.std.proofs.lemmas.Bool.{and_parts, and_left, and_right, eqb-true}
use Rattle.std.specs.List.{list_all, take_while}
use Rattle.std.specs.Char.{is_ascii_digit}
use Rattle.model_text.specs.declared.symbol.Symbol.{Symbol}
use Rattle.model_text.specs.declared.symbol.Symbol.TheVariants.{LeftParenthesis, RightParenthesis, LeftBracket, RightBracket, Comma, Assign, Equals, NotEquals}
use Rattle.model_text.specs.declared.symbol.Symbol.TheVariants.{LessThan, LessOrEqual, GreaterThan, GreaterOrEqual, Plus, Minus, Star, DoubleSlash, Percent}
use Rattle.model_text.specs.Letters.{is_word, is_space, is_hash, is_quote}
use Rattle.model_text.specs.Symbols.{symbol_text, symbol_at}
use Rattle.model_text.specs.declared.literal.Literal.{Literal}
use Rattle.model_text.specs.declared.literal.Literal.TheVariants.{OfText, OfBytes}
use Rattle.model_text.specs.Literals.{opening, inside_of}
use Rattle.model_text.specs.Pieces.{Piece, Blank, Comment, Word, Numeral, Quoted, Unclosed, Punctuation, Stray, piece_text, piece_at, literal_at}
use Rattle.model_text.specs.Pieces.{punctuation_at, pieces_after, pieces_of}
use Rattle.model_text.specs.Cuts.{FirstIs, IsLongest, Fits, Cuts}
use Rattle.law_tokens.proofs.PieceLemmas.{word-no_quote, digit-word, piece_at-space, piece_at-hash, piece_at-quote, piece_at-b, piece_at-digit, piece_at-word}
use Rattle.law_tokens.proofs.PieceLemmas.{piece_at-other}
use Rattle.law_tokens.proofs.RunLemmas.{take_while-run, take_while-cons_passes, run_of, one_more}
use Rattle.law_tokens.proofs.InsideLemmas.{closes, inside_of-more}
use Rattle.law_tokens.proofs.SymbolLemmas.{SymbolIs, symbol_is, symbol_at-longest, symbol_at-none}

-- the pieces behind a first one
pub pieces_after-drop : (taken : ℕ) (bytes : List ℕ) → pieces_after taken bytes ≡ pieces_of (drop taken bytes)
pieces_after-drop zero [] = refl
pieces_after-drop (suc taken) [] = refl
pieces_after-drop zero (byte ∷ bytes) = refl
pieces_after-drop (suc taken) (byte ∷ bytes) = pieces_after-drop taken bytes

-- the piece at the front of bytes
abbrev pub front_of : List ℕ → Option Piece
front_of [] = None
front_of (byte ∷ bytes) = Some (piece_at byte bytes)

pub symbol-some : (symbol : Symbol) → 0 < length (symbol_text symbol)
symbol-some LeftParenthesis = omega arith
symbol-some RightParenthesis = omega arith
symbol-some LeftBracket = omega arith
symbol-some RightBracket = omega arith
symbol-some Comma = omega arith
symbol-some Assign = omega arith
symbol-some Equals = omega arith
symbol-some NotEquals = omega arith
symbol-some LessThan = omega arith
symbol-some LessOrEqual = omega arith
symbol-some GreaterThan = omega arith
symbol-some GreaterOrEqual = omega arith
symbol-some Plus = omega arith
symbol-some Minus = omega arith
symbol-some Star = omega arith
symbol-some DoubleSlash = omega arith
symbol-some Percent = omega arith

pub opening-some : (literal : Literal) (others : List ℕ) → 0 < length (opening literal ++ others)
opening-some OfText others = omega arith
opening-some OfBytes others = omega arith

-- a piece has a byte
pub text-some : (piece : Piece) (rest : List ℕ) → Fits piece rest → 0 < length (piece_text piece)
text-some Blank rest f = omega arith
text-some (Comment []) rest f = absurd f
text-some (Comment (first ∷ others)) rest f = omega arith
text-some (Word []) rest f = absurd f.0
text-some (Word (first ∷ others)) rest f = omega arith
text-some (Numeral []) rest f = absurd f.0
text-some (Numeral (first ∷ others)) rest f = omega arith
text-some (Quoted OfText inside) rest f = omega arith
text-some (Quoted OfBytes inside) rest f = omega arith
text-some (Unclosed text) rest f = rw f.2 (opening-some f.0 f.1)
text-some (Punctuation symbol) rest f = symbol-some symbol
text-some (Stray byte) rest f = omega arith

-- no quote touches a name but for one that a b alone would make a literal of
no_b_quote : (first : ℕ) (others rest : List ℕ) → list_all is_word others ≡ true → (first ∷ others ≡ codes "b" → FirstIs is_quote false rest)
    → (eqb first 98 && is_quote (slice_index (others ++ rest) 0)) ≡ false
no_b_quote first (other ∷ others) rest all stop =
    and_right (eqb first 98) (is_quote other) (word-no_quote other ((and_parts (is_word other) (list_all is_word others) all).0))
no_b_quote first [] rest all stop = by_b (eqb first 98) refl rest stop
  where
    by_b : (b : Bool) → eqb first 98 ≡ b → (rest : List ℕ) → (first ∷ [] ≡ codes "b" → FirstIs is_quote false rest)
        → (eqb first 98 && is_quote (slice_index rest 0)) ≡ false
    by_b false e rest stop = and_left (eqb first 98) (is_quote (slice_index rest 0)) e
    by_b true e [] stop = and_right (eqb first 98) false refl
    by_b true e (byte ∷ rest) stop =
        and_right (eqb first 98) (is_quote byte) (stop (ap (λ x. x ∷ []) (eqb-true first 98 e)))

closed_front : (literal : Literal) (inside rest : List ℕ) → inside_of false (inside ++ 34 ∷ []) ≡ Some inside
    → literal_at literal ((inside ++ 34 ∷ []) ++ rest) (inside_of false ((inside ++ 34 ∷ []) ++ rest)) ≡ Quoted literal inside
closed_front literal inside rest e =
    ap (literal_at literal ((inside ++ 34 ∷ []) ++ rest)) (inside_of-more false (inside ++ 34 ∷ []) rest inside e)

open_front : (literal : Literal) (others : List ℕ) → inside_of false others ≡ None → front_of (opening literal ++ others)
    ≡ Some (Unclosed (opening literal ++ others))
open_front OfText others e =
    ap (λ p. Some p) (piece_at-quote 34 others refl ∙ ap (literal_at OfText others) e)
open_front OfBytes others e =
    ap (λ p. Some p) (piece_at-b 98 (34 ∷ others) refl refl ∙ ap (literal_at OfBytes others) e)

front_symbol : (symbol : Symbol) (rest : List ℕ) → IsLongest symbol rest → front_of (symbol_text symbol ++ rest) ≡ Some (Punctuation symbol)
front_symbol LeftParenthesis rest longest =
    ap (λ p. Some p) (piece_at-other 40 rest refl refl refl refl ∙ ap (punctuation_at 40) (symbol_at-longest LeftParenthesis rest longest))
front_symbol RightParenthesis rest longest =
    ap (λ p. Some p) (piece_at-other 41 rest refl refl refl refl ∙ ap (punctuation_at 41) (symbol_at-longest RightParenthesis rest longest))
front_symbol LeftBracket rest longest =
    ap (λ p. Some p) (piece_at-other 91 rest refl refl refl refl ∙ ap (punctuation_at 91) (symbol_at-longest LeftBracket rest longest))
front_symbol RightBracket rest longest =
    ap (λ p. Some p) (piece_at-other 93 rest refl refl refl refl ∙ ap (punctuation_at 93) (symbol_at-longest RightBracket rest longest))
front_symbol Comma rest longest =
    ap (λ p. Some p) (piece_at-other 44 rest refl refl refl refl ∙ ap (punctuation_at 44) (symbol_at-longest Comma rest longest))
front_symbol Assign rest longest =
    ap (λ p. Some p) (piece_at-other 61 rest refl refl refl refl ∙ ap (punctuation_at 61) (symbol_at-longest Assign rest longest))
front_symbol Equals rest longest =
    ap (λ p. Some p) (piece_at-other 61 (61 ∷ rest) refl refl refl refl ∙ ap (punctuation_at 61) (symbol_at-longest Equals rest longest))
front_symbol NotEquals rest longest =
    ap (λ p. Some p) (piece_at-other 33 (61 ∷ rest) refl refl refl refl ∙ ap (punctuation_at 33) (symbol_at-longest NotEquals rest longest))
front_symbol LessThan rest longest =
    ap (λ p. Some p) (piece_at-other 60 rest refl refl refl refl ∙ ap (punctuation_at 60) (symbol_at-longest LessThan rest longest))
front_symbol LessOrEqual rest longest =
    ap (λ p. Some p) (piece_at-other 60 (61 ∷ rest) refl refl refl refl ∙ ap (punctuation_at 60) (symbol_at-longest LessOrEqual rest longest))
front_symbol GreaterThan rest longest =
    ap (λ p. Some p) (piece_at-other 62 rest refl refl refl refl ∙ ap (punctuation_at 62) (symbol_at-longest GreaterThan rest longest))
front_symbol GreaterOrEqual rest longest =
    ap (λ p. Some p) (piece_at-other 62 (61 ∷ rest) refl refl refl refl ∙ ap (punctuation_at 62) (symbol_at-longest GreaterOrEqual rest longest))
front_symbol Plus rest longest =
    ap (λ p. Some p) (piece_at-other 43 rest refl refl refl refl ∙ ap (punctuation_at 43) (symbol_at-longest Plus rest longest))
front_symbol Minus rest longest =
    ap (λ p. Some p) (piece_at-other 45 rest refl refl refl refl ∙ ap (punctuation_at 45) (symbol_at-longest Minus rest longest))
front_symbol Star rest longest =
    ap (λ p. Some p) (piece_at-other 42 rest refl refl refl refl ∙ ap (punctuation_at 42) (symbol_at-longest Star rest longest))
front_symbol DoubleSlash rest longest =
    ap (λ p. Some p) (piece_at-other 47 (47 ∷ rest) refl refl refl refl ∙ ap (punctuation_at 47) (symbol_at-longest DoubleSlash rest longest))
front_symbol Percent rest longest =
    ap (λ p. Some p) (piece_at-other 37 rest refl refl refl refl ∙ ap (punctuation_at 37) (symbol_at-longest Percent rest longest))

-- A piece that fits is found.
pub front_found : (piece : Piece) (rest : List ℕ) → Fits piece rest → front_of (piece_text piece ++ rest) ≡ Some piece
front_found Blank rest f = ap (λ p. Some p) (piece_at-space 32 rest refl)
front_found (Comment []) rest f = absurd f
front_found (Comment (first ∷ others)) rest f =
    ap (λ p. Some p)
    (piece_at-hash first (others ++ rest) f.0 ∙ ap (λ more. Comment (first ∷ (others ++ more))) f.1
    ∙ ap (λ more. Comment (first ∷ more)) (append-nil others))
front_found (Word []) rest f = absurd f.0
front_found (Word (first ∷ others)) rest f =
    let parts = and_parts (is_word first) (list_all is_word others) f.0.1 in
    ap (λ p. Some p)
    (piece_at-word first (others ++ rest) parts.0 f.0.0 (no_b_quote first others rest parts.1 f.2)
    ∙ ap (λ text. Word text) (take_while-run is_word (first ∷ others) rest f.0.1 f.1))
front_found (Numeral []) rest f = absurd f.0
front_found (Numeral (first ∷ others)) rest f =
    ap (λ p. Some p) (piece_at-digit first (others ++ rest) f.0.0 ∙ ap (λ text. Numeral text) (take_while-run is_word (first ∷ others) rest f.0.1 f.1))
front_found (Quoted OfText inside) rest f =
    ap (λ p. Some p) (piece_at-quote 34 ((inside ++ 34 ∷ []) ++ rest) refl ∙ closed_front OfText inside rest f)
front_found (Quoted OfBytes inside) rest f =
    ap (λ p. Some p) (piece_at-b 98 (34 ∷ ((inside ++ 34 ∷ []) ++ rest)) refl refl ∙ closed_front OfBytes inside rest f)
front_found (Unclosed text) rest f =
    rw (f.4, append-nil text, f.2) (open_front f.0 f.1 f.3)
front_found (Punctuation symbol) rest f = front_symbol symbol rest f
front_found (Stray byte) rest f =
    ap (λ p. Some p) (piece_at-other byte rest f.0 f.1 f.2 f.3 ∙ ap (punctuation_at byte) (symbol_at-none (byte ∷ rest) f.4))

-- The bytes are this piece, which fits, and a rest.
pub record StandsInFront (bytes : List ℕ) (piece : Piece) : Type 0 where
  pub rest : List ℕ
  pub whole : bytes ≡ piece_text piece ++ rest
  pub fits : Fits piece rest

stands-literal : (literal : Literal) (others : List ℕ) (o : Option (List ℕ)) → inside_of false others ≡ o
    → StandsInFront (opening literal ++ others) (literal_at literal others o)
stands-literal literal others None e = record {
  rest = [];
  whole = sym (append-nil (opening literal ++ others));
  fits = (literal, others, refl, e, refl);
}
stands-literal literal others (Some inside) e =
    let c = closes false others inside e in
    record {
      rest = c.rest;
      whole =
          ap (λ more. opening literal ++ more) (c.whole ∙ sym (append_assoc inside (34 ∷ []) c.rest))
          ∙ sym (append_assoc (opening literal) (inside ++ 34 ∷ []) c.rest);
      fits = c.closes;
    }

stands-space : (byte : ℕ) (bytes : List ℕ) → is_space byte ≡ true → StandsInFront (byte ∷ bytes) (piece_at byte bytes)
stands-space byte bytes h =
    rw (piece_at-space byte bytes h) (record { rest = bytes; whole = ap (λ first. first ∷ bytes) (eqb-true byte 32 h); fits = tt })

stands-hash : (byte : ℕ) (bytes : List ℕ) → is_hash byte ≡ true → StandsInFront (byte ∷ bytes) (piece_at byte bytes)
stands-hash byte bytes h =
    rw (piece_at-hash byte bytes h) (record { rest = []; whole = sym (append-nil (byte ∷ bytes)); fits = (h, refl) })

stands-quote : (byte : ℕ) (bytes : List ℕ) → is_quote byte ≡ true → StandsInFront (byte ∷ bytes) (piece_at byte bytes)
stands-quote byte bytes h =
    rw (piece_at-quote byte bytes h, eqb-true byte 34 h) (stands-literal OfText bytes (inside_of false bytes) refl)

stands-b : (byte : ℕ) (bytes : List ℕ) → eqb byte 98 ≡ true → is_quote (slice_index bytes 0) ≡ true → StandsInFront (byte ∷ bytes) (piece_at byte bytes)
stands-b byte [] b q = cc
stands-b byte (quote ∷ bytes) b q =
    rw (piece_at-b byte (quote ∷ bytes) b q, eqb-true byte 98 b, eqb-true quote 34 q) (stands-literal OfBytes bytes (inside_of false bytes) refl)

stands-digit : (byte : ℕ) (bytes : List ℕ) → is_ascii_digit byte ≡ true → StandsInFront (byte ∷ bytes) (piece_at byte bytes)
stands-digit byte bytes d =
    let w = digit-word byte d in
    let run = one_more is_word byte bytes (take_while is_word bytes) w (run_of is_word bytes) in
    rw (piece_at-digit byte bytes d, take_while-cons_passes is_word byte bytes w)
    (record { rest = run.rest; whole = run.whole; fits = ((d, run.passes), run.stops) })

first_no_quote : (rest : List ℕ) → is_quote (slice_index rest 0) ≡ false → FirstIs is_quote false rest
first_no_quote [] h = tt
first_no_quote (byte ∷ rest) h = h

no_quote_behind_b : (byte : ℕ) (bytes run rest : List ℕ) → (eqb byte 98 && is_quote (slice_index bytes 0)) ≡ false → bytes ≡ run ++ rest → byte ∷ run
    ≡ codes "b" → FirstIs is_quote false rest
no_quote_behind_b byte bytes run rest n whole e =
    let b : byte ≡ 98 = cc in
    let none : run ≡ [] = cc in
    let same : bytes ≡ rest = whole ∙ ap (λ run. run ++ rest) none in
    first_no_quote rest (rw (b, same) at n)

stands-word : (byte : ℕ) (bytes : List ℕ) → is_word byte ≡ true → is_ascii_digit byte ≡ false → (eqb byte 98 && is_quote (slice_index bytes 0)) ≡ false
    → StandsInFront (byte ∷ bytes) (piece_at byte bytes)
stands-word byte bytes w d n =
    let run = one_more is_word byte bytes (take_while is_word bytes) w (run_of is_word bytes) in
    let behind : bytes ≡ take_while is_word bytes ++ run.rest = let whole = run.whole in cc in
    rw (piece_at-word byte bytes w d n, take_while-cons_passes is_word byte bytes w)
    (record {
      rest = run.rest;
      whole = run.whole;
      fits = ((d, run.passes), run.stops, no_quote_behind_b byte bytes (take_while is_word bytes) run.rest n behind);
    })

stands-punctuation : (byte : ℕ) (bytes : List ℕ) (o : Option Symbol) → is_space byte ≡ false → is_hash byte ≡ false → is_quote byte ≡ false → is_word byte
    ≡ false → SymbolIs (byte ∷ bytes) o → StandsInFront (byte ∷ bytes) (punctuation_at byte o)
stands-punctuation byte bytes None s h q w found = record { rest = bytes; whole = refl; fits = (s, h, q, w, found) }
stands-punctuation byte bytes (Some symbol) s h q w found =
    record { rest = found.0; whole = found.1; fits = found.2 }

stands-other : (byte : ℕ) (bytes : List ℕ) → is_space byte ≡ false → is_hash byte ≡ false → is_quote byte ≡ false → is_word byte ≡ false
    → StandsInFront (byte ∷ bytes) (piece_at byte bytes)
stands-other byte bytes s h q w =
    rw (piece_at-other byte bytes s h q w) (stands-punctuation byte bytes (symbol_at (byte ∷ bytes)) s h q w (symbol_is (byte ∷ bytes)))

-- The piece at the front fits.
pub stands : (byte : ℕ) (bytes : List ℕ) → StandsInFront (byte ∷ bytes) (piece_at byte bytes)
stands byte bytes =
    by_tests (is_space byte) (is_hash byte) (is_quote byte) (is_word byte) (is_ascii_digit byte)
    (eqb byte 98 && is_quote (slice_index bytes 0)) refl refl refl refl refl refl
  where
    by_tests : (s h q w d b : Bool) → is_space byte ≡ s → is_hash byte ≡ h → is_quote byte ≡ q → is_word byte ≡ w → is_ascii_digit byte ≡ d
        → (eqb byte 98 && is_quote (slice_index bytes 0)) ≡ b → StandsInFront (byte ∷ bytes) (piece_at byte bytes)
    by_tests true h q w d b es eh eq ew ed eb = stands-space byte bytes es
    by_tests false true q w d b es eh eq ew ed eb = stands-hash byte bytes eh
    by_tests false false true w d b es eh eq ew ed eb = stands-quote byte bytes eq
    by_tests false false false w d true es eh eq ew ed eb =
        let parts = and_parts (eqb byte 98) (is_quote (slice_index bytes 0)) eb in
        stands-b byte bytes parts.0 parts.1
    by_tests false false false w true false es eh eq ew ed eb = stands-digit byte bytes ed
    by_tests false false false true false false es eh eq ew ed eb = stands-word byte bytes ew ed eb
    by_tests false false false false false false es eh eq ew ed eb = stands-other byte bytes es eh eq ew

behind_front : (byte : ℕ) (bytes text rest : List ℕ) → 0 < length text → byte ∷ bytes ≡ text ++ rest → drop (length text - 1) bytes ≡ rest
behind_front byte bytes [] rest some e = absurd (omega arith)
behind_front byte bytes (first ∷ text) rest some e =
    let same : bytes ≡ text ++ rest = cc in
    let n : length (first ∷ text) - 1 ≡ length text = omega arith in
    rw (n, same) (drop-append_seam text rest)

-- A piece that fits is the first, and the others are those of the rest.
pub pieces_of-front : (bytes : List ℕ) (piece : Piece) (rest : List ℕ) → Fits piece rest → bytes ≡ piece_text piece ++ rest → pieces_of bytes ≡ piece
    ∷ pieces_of rest
pieces_of-front [] piece rest fits e =
    absurd (omega (arith, text-some piece rest fits, ap length e, length-append (piece_text piece) rest))
pieces_of-front (byte ∷ bytes) piece rest fits e =
    let found = ap front_of e ∙ front_found piece rest fits in
    let same : piece_at byte bytes ≡ piece = cc in
    let behind = behind_front byte bytes (piece_text piece) rest (text-some piece rest fits) e in
    rw same (ap (λ others. piece ∷ others) (pieces_after-drop (length (piece_text piece) - 1) bytes ∙ ap pieces_of behind))

-- The pieces of a line are a cut.
cut_within : (n : ℕ) (line : List ℕ) → length line ≤ n → Cuts line (pieces_of line)
cut_within n [] small = refl
cut_within zero (byte ∷ bytes) small = absurd (omega arith)
cut_within (suc n) (byte ∷ bytes) small =
    let s = stands byte bytes in
    let piece = piece_at byte bytes in
    let shorter : length s.rest ≤ n = omega (arith, text-some piece s.rest s.fits, ap length s.whole, length-append (piece_text piece) s.rest) in
    let P : List Piece → Type 0 = λ pieces. Cuts (byte ∷ bytes) pieces in
    subst P (sym (pieces_of-front (byte ∷ bytes) piece s.rest s.fits s.whole)) (s.rest, s.whole, s.fits, cut_within n s.rest shorter)

pub Cuts-pieces_of : (line : List ℕ) → Cuts line (pieces_of line)
Cuts-pieces_of line = cut_within (length line) line (omega arith)

-- It is the only one.
pub Cuts-one : (line : List ℕ) (pieces : List Piece) → Cuts line pieces → pieces ≡ pieces_of line
Cuts-one line [] c = rw c refl
Cuts-one line (piece ∷ pieces) c =
    ap (λ others. piece ∷ others) (Cuts-one c.0 pieces c.3) ∙ sym (pieces_of-front line piece c.0 c.2 c.1)

-- the first piece, and the pieces of what stands behind it
pub pieces_of-cons : (byte : ℕ) (bytes : List ℕ) → pieces_of (byte ∷ bytes) ≡ piece_at byte bytes
    ∷ pieces_of (drop (length (piece_text (piece_at byte bytes))) (byte ∷ bytes))
pieces_of-cons byte bytes =
    let s = stands byte bytes in
    let text : List ℕ = piece_text (piece_at byte bytes) in
    let behind = ap (drop (length text)) s.whole ∙ drop-append_seam text s.rest in
    pieces_of-front (byte ∷ bytes) (piece_at byte bytes) s.rest s.fits s.whole ∙ ap (λ rest. piece_at byte bytes ∷ pieces_of rest) (sym behind)

pub length-piece_at : (byte : ℕ) (bytes : List ℕ)
    → (0 < length (piece_text (piece_at byte bytes))) × (length (piece_text (piece_at byte bytes)) ≤ length (byte ∷ bytes))
length-piece_at byte bytes =
    let s = stands byte bytes in
    let text : List ℕ = piece_text (piece_at byte bytes) in
    (text-some (piece_at byte bytes) s.rest s.fits, omega (arith, ap length s.whole, length-append text s.rest))
