-- `tokens_of` answers exactly the tokens that a line has.
use Rattle.std.proofs.Common.{◌≡◌, ℕ, zero, suc, ◌+◌, ◌^◌, ◌<◌, ◌≤◌, Bool, true, false, cond, not, List, [], ◌∷◌, ◌++◌, length, replicate, refl, sym, ap, ◌∙◌}
use Rattle.std.proofs.Common.{arith, Option, Some, None, Result, Ok, Err, pos, nat_lt, add-zero}
use Rattle.std.specs.List.{list_all, position, position_or_len}
use Rattle.std.specs.Char.{is_ascii_digit}
use Rattle.std.proofs.lemmas.List.{length-append, append-nil}
use Rattle.std.proofs.lemmas.Bool.{and_parts, and_from, ltb-true, ltb-false, lt-ltb, le-ltb, cond-false}
use Rattle.std.proofs.lemmas.Bool.Decides.{nat_tests}
use Rattle.model_text.specs.Letters.{is_allowed, is_word, is_hash}
use Rattle.model_text.specs.Symbols.{symbol_text}
use Rattle.model_text.specs.Faults.{TokenFault, BadNumber}
use Rattle.model_text.specs.declared.literal.Literal.TheVariants.{OfText, OfBytes}
use Rattle.model_text.specs.Literals.{parts_of, literal_bytes}
use Rattle.model_text.specs.Pieces.{Piece, Blank, Comment, Word, Numeral, Quoted, Unclosed, Punctuation, Stray, piece_text, pieces_of}
use Rattle.model_text.specs.Tokens.{TokenClass, Name, Int, Text, Bytes, Symbol, Token, number_of, is_number, token_of, comment_tokens, literal_tokens}
use Rattle.model_text.specs.Tokens.{piece_tokens, tokens_in, tokens_of}
use Rattle.model_text.specs.Cuts.{IsNumeral, Fits, Cuts}
use Rattle.model_text.specs.Lines.{IsDecimal, SpellsToken, Ends, IsComment, Reads}
use Rattle.law_tokens.proofs.CutLemmas.{symbol-some, opening-some, pieces_of-front, Cuts-pieces_of}
use Rattle.law_tokens.proofs.PartLemmas.{both_ok, Says-literal_bytes, literal_bytes-Says, inside_of-Says}
use Rattle.law_tokens.proofs.PieceLemmas.{digit-word}

-- a token from its parts
token-is : (token : Token) (column : ℕ) (text : List ℕ) → token.start ≡ column → token.end ≡ token.start + length text → token_of column text token.class
    ≡ token
token-is token column text s e =
    let start = sym s in
    let end : column + length text ≡ token.end = omega arith in
    λ i. record { class = token.class; start = start i; end = end i }

-- the tokens behind a blank
pub Reads-blank : (column : ℕ) (rest : List ℕ) (tokens : List Token) → Reads (column + 1) rest tokens → Reads column (32 ∷ rest) tokens
Reads-blank column rest [] r = (suc r.0, r.1, ap (λ more. 32 ∷ more) r.2, r.3)
Reads-blank column rest (token ∷ tokens) r = (
  r.0,
  record {
    spaces = suc r.1.spaces;
    text = r.1.text;
    whole = ap (λ more. 32 ∷ more) r.1.whole;
    spelled = r.1.spelled;
    ended = r.1.ended;
    start = omega (arith, r.1.start);
    end = r.1.end;
  },
  r.2,
)

-- the tokens behind one
Reads-token : (column : ℕ) (text rest : List ℕ) (class : TokenClass) (tokens : List Token) → SpellsToken class text → Ends class rest
    → Reads (column + length text) rest tokens → Reads column (text ++ rest) (token_of column text class ∷ tokens)
Reads-token column text rest class tokens spelled ended r = (
  rest,
  record {
    spaces = 0;
    text = text;
    whole = refl;
    spelled = spelled;
    ended = ended;
    start = omega arith;
    end = refl;
  },
  r,
)

pub text-some : (class : TokenClass) (text : List ℕ) → SpellsToken class text → 0 < length text
text-some (Name []) text s = absurd s.0
text-some (Name (first ∷ others)) text s = rw s.1 (omega arith)
text-some (Int number) text s = s.0.0
text-some (Text bytes) text s = rw s.1 (opening-some OfText (s.0 ++ 34 ∷ []))
text-some (Bytes bytes) text s = rw s.1 (opening-some OfBytes (s.0 ++ 34 ∷ []))
text-some (Symbol symbol) text s = rw s (symbol-some symbol)

-- where no byte is, no token is
Reads-nothing : (column : ℕ) (tokens : List Token) → Reads column [] tokens → tokens ≡ []
Reads-nothing column [] r = refl
Reads-nothing column (token ∷ tokens) r =
    absurd (omega (
      arith,
      text-some token.class r.1.text r.1.spelled,
      ap length r.1.whole,
      length-append (replicate r.1.spaces 32) (r.1.text ++ r.0),
      length-append r.1.text r.0,
    ))

-- a comment without a byte that isn't allowed
no_fault : (column : ℕ) (place : Option ℕ) (mine : List Token) → comment_tokens column place ≡ Ok mine → (place ≡ None) × (mine ≡ [])
no_fault column None mine e = (refl, cc)
no_fault column (Some place) mine e = cc

-- where the first byte that isn't allowed stands, or how many bytes there are
abbrev first_bad : List ℕ → ℕ
first_bad text = position_or_len (λ byte. not (is_allowed byte)) text

all_pass_by : (byte : ℕ) (text : List ℕ) (b : Bool) → is_allowed byte ≡ b → length (byte ∷ text) ≤ first_bad (byte ∷ text)
    → (length text ≤ first_bad text → list_all is_allowed text ≡ true) → list_all is_allowed (byte ∷ text) ≡ true
all_pass_by byte text true e h behind = and_from (is_allowed byte) (list_all is_allowed text) e (behind (omega (arith, rw e at h)))
all_pass_by byte text false e h behind = absurd (omega (arith, rw e at h))

all_pass : (text : List ℕ) → length text ≤ first_bad text → list_all is_allowed text ≡ true
all_pass [] h = refl
all_pass (byte ∷ text) h = all_pass_by byte text (is_allowed byte) refl h (λ k. all_pass text k)

none_chosen : (b : Bool) (place : ℕ) → cond b (Some place) None ≡ None → b ≡ false
none_chosen true place e = cc
none_chosen false place e = refl

all_allowed : (text : List ℕ) → position (λ byte. not (is_allowed byte)) text ≡ None → list_all is_allowed text ≡ true
all_allowed text e =
    all_pass text (ltb-false (first_bad text) (length text) (none_chosen (nat_lt (first_bad text) (length text)) (first_bad text) e))

chosen_ok : {A E : Type 0} (b : Bool) (x : A) (y : E) (z : A) → cond b (Ok x) (Err y) ≡ Ok z → (b ≡ true) × (z ≡ x)
chosen_ok true x y z e = (refl, cc)
chosen_ok false x y z e = cc

numeral-some : (text : List ℕ) → IsNumeral text → 0 < length text
numeral-some [] h = absurd h
numeral-some (first ∷ others) h = omega arith

text_ok : (column : ℕ) (text : List ℕ) (saying : Result (List ℕ) TokenFault) (mine : List Token) → literal_tokens column text OfText saying ≡ Ok mine
    → (bytes : List ℕ) × (saying ≡ Ok bytes) × (mine ≡ token_of column text (Text bytes) ∷ [])
text_ok column text (Ok bytes) mine e = (bytes, refl, cc)
text_ok column text (Err fault) mine e = cc

bytes_ok : (column : ℕ) (text : List ℕ) (saying : Result (List ℕ) TokenFault) (mine : List Token) → literal_tokens column text OfBytes saying ≡ Ok mine
    → (bytes : List ℕ) × (saying ≡ Ok bytes) × (mine ≡ token_of column text (Bytes bytes) ∷ [])
bytes_ok column text (Ok bytes) mine e = (bytes, refl, cc)
bytes_ok column text (Err fault) mine e = cc

-- one piece judged, and the tokens of the rest
behind_piece : (column : ℕ) (piece : Piece) (rest : List ℕ) (mine others : List Token) → Fits piece rest → piece_tokens column piece ≡ Ok mine
    → Reads (column + length (piece_text piece)) rest others → Reads column (piece_text piece ++ rest) (mine ++ others)
unfolding piece_tokens
behind_piece column Blank rest mine others fits e r =
    let none : mine ≡ [] = cc in rw none (Reads-blank column rest others r)
behind_piece column (Comment []) rest mine others fits e r = absurd fits
behind_piece column (Comment (first ∷ text)) rest mine others fits e r =
    let c = no_fault column (position (λ byte. not (is_allowed byte)) (first ∷ text)) mine e in
    let allowed = (and_parts (is_allowed first) (list_all is_allowed text) (all_allowed (first ∷ text) c.0)).1 in
    let behind : Reads (column + length (first ∷ text)) [] others = rw fits.1 at r in
    let none = Reads-nothing (column + length (first ∷ text)) others behind in
    rw (c.1, none, fits.1, append-nil text) (0, first ∷ text, refl, (fits.0, allowed))
behind_piece column (Word text) rest mine others fits e r =
    let one : mine ≡ token_of column text (Name text) ∷ [] = cc in
    rw one (Reads-token column text rest (Name text) others (fits.0, refl) (fits.1, fits.2) r)
behind_piece column (Numeral text) rest mine others fits e r =
    let c = chosen_ok (is_number text) (token_of column text (Int (pos (number_of text))) ∷ []) (BadNumber column) mine e in
    let p = and_parts (list_all is_ascii_digit text) (nat_lt (number_of text) (2 ^ 63)) c.0 in
    let spelled : SpellsToken (Int (pos (number_of text))) text = ((numeral-some text fits.0, p.0), ltb-true (number_of text) (2 ^ 63) p.1, refl) in
    rw c.1 (Reads-token column text rest (Int (pos (number_of text))) others spelled fits.1 r)
behind_piece column (Quoted OfText inside) rest mine others fits e r =
    let text = piece_text (Quoted OfText inside) in
    let c = text_ok column text (literal_bytes OfText (column + 1) (parts_of inside)) mine e in
    rw c.2 (Reads-token column text rest (Text c.0) others (inside, refl, Says-literal_bytes OfText (column + 1) inside c.0 c.1) tt r)
behind_piece column (Quoted OfBytes inside) rest mine others fits e r =
    let text = piece_text (Quoted OfBytes inside) in
    let c = bytes_ok column text (literal_bytes OfBytes (column + 2) (parts_of inside)) mine e in
    rw c.2 (Reads-token column text rest (Bytes c.0) others (inside, refl, Says-literal_bytes OfBytes (column + 2) inside c.0 c.1) tt r)
behind_piece column (Unclosed text) rest mine others fits e r = cc
behind_piece column (Punctuation symbol) rest mine others fits e r =
    let one : mine ≡ token_of column (symbol_text symbol) (Symbol symbol) ∷ [] = cc in
    rw one (Reads-token column (symbol_text symbol) rest (Symbol symbol) others refl fits r)
behind_piece column (Stray byte) rest mine others fits e r = cc

-- the tokens of a cut
pub read_pieces : (column : ℕ) (bytes : List ℕ) (pieces : List Piece) (tokens : List Token) → Cuts bytes pieces → tokens_in column pieces ≡ Ok tokens
    → Reads column bytes tokens
read_pieces column bytes [] tokens cut e =
    let none : tokens ≡ [] = cc in rw (none, cut) (0, [], refl, tt)
read_pieces column bytes (piece ∷ pieces) tokens cut e =
    let both = both_ok (piece_tokens column piece) (tokens_in (column + length (piece_text piece)) pieces) tokens e in
    rw (both.4, cut.1)
    (behind_piece column piece cut.0 both.0 both.1 cut.2 both.2 (read_pieces (column + length (piece_text piece)) cut.0 pieces both.1 cut.3 both.3))

-- What is answered is read.
pub Reads-tokens_of : (line : List ℕ) (tokens : List Token) → tokens_of line ≡ Ok tokens → Reads 1 line tokens
unfolding tokens_of
Reads-tokens_of line tokens e =
    read_pieces 1 line (pieces_of line) tokens (Cuts-pieces_of line) e

-- a piece that is a token
pub record Tokenizes (piece : Piece) (text : List ℕ) (class : TokenClass) (rest : List ℕ) : Type 0 where
  pub same : piece_text piece ≡ text
  pub fits : Fits piece rest
  pub one : (column : ℕ) → piece_tokens column piece ≡ Ok (token_of column text class ∷ [])

digits-words : (text : List ℕ) → list_all is_ascii_digit text ≡ true → list_all is_word text ≡ true
digits-words [] h = refl
digits-words (digit ∷ text) h =
    let p = and_parts (is_ascii_digit digit) (list_all is_ascii_digit text) h in
    and_from (is_word digit) (list_all is_word text) (digit-word digit p.0) (digits-words text p.1)

decimal-numeral : (text : List ℕ) → IsDecimal text → IsNumeral text
decimal-numeral [] d = absurd (omega (arith, d.0))
decimal-numeral (digit ∷ text) d =
    ((and_parts (is_ascii_digit digit) (list_all is_ascii_digit text) d.1).0, digits-words (digit ∷ text) d.1)

-- a text that spells a token is a piece, where the token ends there
token_piece : (class : TokenClass) (text rest : List ℕ) → SpellsToken class text → Ends class rest → (piece : Piece) × Tokenizes piece text class rest
unfolding piece_tokens
token_piece (Name name) text rest s e = (
  Word text,
  record {
    same = refl;
    fits = (rw s.1 s.0, e.0, λ b. e.1 (sym s.1 ∙ b));
    one = λ column. rw s.1 refl;
  },
)
token_piece (Int number) text rest s e = (
  Numeral text,
  record {
    same = refl;
    fits = (decimal-numeral text s.0, e);
    one = λ column.
        let small = and_from (list_all is_ascii_digit text) (nat_lt (number_of text) (2 ^ 63)) s.0.1 (lt-ltb (number_of text) (2 ^ 63) s.1) in
        rw (small, s.2) refl;
  },
)
token_piece (Text bytes) text rest s e = (
  Quoted OfText s.0,
  record {
    same = sym s.1;
    fits = inside_of-Says OfText bytes s.0 s.2;
    one = λ column. rw (literal_bytes-Says OfText (column + 1) bytes s.0 s.2, s.1) refl;
  },
)
token_piece (Bytes bytes) text rest s e = (
  Quoted OfBytes s.0,
  record {
    same = sym s.1;
    fits = inside_of-Says OfBytes bytes s.0 s.2;
    one = λ column. rw (literal_bytes-Says OfBytes (column + 2) bytes s.0 s.2, s.1) refl;
  },
)
token_piece (Symbol symbol) text rest s e =
    (Punctuation symbol, record { same = sym s; fits = e; one = λ column. rw s refl })

-- one piece, and the tokens of the rest
at_piece : (column : ℕ) (bytes : List ℕ) (piece : Piece) (rest : List ℕ) (mine others : List Token) → Fits piece rest → bytes ≡ piece_text piece ++ rest
    → piece_tokens column piece ≡ Ok mine → tokens_in (column + length (piece_text piece)) (pieces_of rest) ≡ Ok others → tokens_in column (pieces_of bytes)
    ≡ Ok (mine ++ others)
at_piece column bytes piece rest mine others fits whole e r =
    ap (tokens_in column) (pieces_of-front bytes piece rest fits whole) ∙ (rw (e, r) refl)

at_blank : (column : ℕ) (more : List ℕ) (tokens : List Token) → tokens_in (column + 1) (pieces_of more) ≡ Ok tokens → tokens_in column (pieces_of (32 ∷ more))
    ≡ Ok tokens
unfolding piece_tokens
at_blank column more tokens e = at_piece column (32 ∷ more) Blank more [] tokens tt refl refl e

at_blanks : (spaces column : ℕ) (more : List ℕ) (tokens : List Token) → tokens_in (column + spaces) (pieces_of more) ≡ Ok tokens
    → tokens_in column (pieces_of (replicate spaces 32 ++ more)) ≡ Ok tokens
at_blanks zero column more tokens e = rw add-zero at e
at_blanks (suc spaces) column more tokens e =
    let n : column + suc spaces ≡ (column + 1) + spaces = omega arith in
    at_blank column (replicate spaces 32 ++ more) tokens (at_blanks spaces (column + 1) more tokens (rw n at e))

none_bad : (text : List ℕ) → list_all is_allowed text ≡ true → first_bad text ≡ length text
none_bad [] h = refl
none_bad (byte ∷ text) h =
    let p = and_parts (is_allowed byte) (list_all is_allowed text) h in
    rw p.0 (let same = none_bad text p.1 in omega arith)

no_place : (text : List ℕ) → list_all is_allowed text ≡ true → position (λ byte. not (is_allowed byte)) text ≡ None
no_place text h =
    cond-false (nat_lt (first_bad text) (length text)) (Some (first_bad text)) None
    (le-ltb (first_bad text) (length text) (let same = none_bad text h in omega arith))

hash-allowed : (byte : ℕ) → is_hash byte ≡ true → is_allowed byte ≡ true
hash-allowed byte h = grind (arith, nat_tests)

at_comment : (column : ℕ) (comment : List ℕ) → IsComment comment → tokens_in column (pieces_of comment) ≡ Ok []
unfolding piece_tokens
at_comment column [] c = refl
at_comment column (first ∷ others) c =
    let allowed = and_from (is_allowed first) (list_all is_allowed others) (hash-allowed first c.0) c.1 in
    at_piece column (first ∷ others) (Comment (first ∷ others)) [] [] [] (c.0, refl) (sym (append-nil (first ∷ others)))
    (ap (comment_tokens column) (no_place (first ∷ others) allowed)) refl

-- What is read is answered.
pub tokens_in-Reads : (column : ℕ) (bytes : List ℕ) (tokens : List Token) → Reads column bytes tokens → tokens_in column (pieces_of bytes) ≡ Ok tokens
tokens_in-Reads column bytes [] r =
    rw r.2 (at_blanks r.0 column r.1 [] (at_comment (column + r.0) r.1 r.3))
tokens_in-Reads column bytes (token ∷ tokens) r =
    let text = r.1.text in
    let rest = r.0 in
    let start = column + r.1.spaces in
    let t = token_piece token.class text rest r.1.spelled r.1.ended in
    let end : token.end ≡ start + length (piece_text t.0) = omega (arith, ap length t.1.same, r.1.end, r.1.start) in
    let behind = rw end at (tokens_in-Reads token.end rest tokens r.2) in
    let found =
    at_piece start (text ++ rest) t.0 rest (token_of start text token.class ∷ []) tokens t.1.fits
    (ap (λ front. front ++ rest) (sym t.1.same)) (t.1.one start) behind in
    let whole = found ∙ ap (λ first. Ok (first ∷ tokens)) (token-is token start text r.1.start r.1.end) in
    rw r.1.whole (at_blanks r.1.spaces column (text ++ rest) (token ∷ tokens) whole)

pub tokens_of-Reads : (line : List ℕ) (tokens : List Token) → Reads 1 line tokens → tokens_of line ≡ Ok tokens
unfolding tokens_of
tokens_of-Reads line tokens r = tokens_in-Reads 1 line tokens r
