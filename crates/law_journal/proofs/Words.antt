-- The words of a line that begins with a word: the word, and those of what follows its space.
use Rattle.std.proofs.Common.{◌≡◌, ℕ, Bool, true, false, not, ◌&&◌, List, [], ◌∷◌, ◌++◌, map, filter, refl, sym, ap, subst, ◌∙◌, append-nil}
use Rattle.std.proofs.lemmas.Bool.{and_parts}
use Rattle.model_text.specs.Letters.{is_space}
use Rattle.model_wire.specs.JournalText.{EntryToken, QuoteState, Outside, is_outside, standing_after, put, pieces_of, is_some, token_of, tokens_of}

-- no byte of these parts words
abbrev pub parts_nothing : QuoteState → List ℕ → Bool
parts_nothing standing [] = true
parts_nothing standing (byte ∷ bytes) = not (is_outside standing && is_space byte) && parts_nothing (standing_after standing byte) bytes

-- where the byte after these stands
abbrev pub standing_over : QuoteState → List ℕ → QuoteState
standing_over standing [] = standing
standing_over standing (byte ∷ bytes) = standing_over (standing_after standing byte) bytes

-- these bytes stand at the front of the first piece of what follows
abbrev pub Leads : QuoteState → List ℕ → QuoteState → Type 0
Leads before bytes after =
    (first : List ℕ) (pieces : List (List ℕ)) (rest : List ℕ) → pieces_of after rest ≡ first ∷ pieces
    → pieces_of before (bytes ++ rest) ≡ (bytes ++ first) ∷ pieces

put_before : (parts : Bool) (byte : ℕ) (first : List ℕ) (pieces : List (List ℕ)) → not parts ≡ true
    → put parts byte (first ∷ pieces) ≡ (byte ∷ first) ∷ pieces
put_before true byte first pieces h = cc
put_before false byte first pieces h = refl

pub leads : (before : QuoteState) (bytes : List ℕ) → parts_nothing before bytes ≡ true → Leads before bytes (standing_over before bytes)
leads before [] h first pieces rest e = e
leads before (byte ∷ bytes) h first pieces rest e =
    let p = and_parts (not (is_outside before && is_space byte)) (parts_nothing (standing_after before byte) bytes) h in
    ap (put (is_outside before && is_space byte) byte) (leads (standing_after before byte) bytes p.1 first pieces rest e)
    ∙ put_before (is_outside before && is_space byte) byte (bytes ++ first) pieces p.0

-- ---- a word with the token that it is
pub record IsWord (text : List ℕ) (token : EntryToken) : Type 0 where
  pub some : is_some text ≡ true
  pub whole : Leads Outside text Outside
  pub reads : token_of text ≡ token

kept : (word : List ℕ) (words : List (List ℕ)) → is_some word ≡ true → filter is_some (word ∷ words) ≡ word ∷ filter is_some words
kept [] words h = cc
kept (byte ∷ bytes) words h = refl

-- what follows a word, with its tokens: nothing, or a space and more
abbrev pub Follows : List ℕ → List EntryToken → Type 0
Follows rest tokens = (text : List ℕ) (token : EntryToken) → IsWord text token → tokens_of (text ++ rest) ≡ token ∷ tokens

pub nothing-follows : Follows [] []
nothing-follows text token w =
    ap (λ pieces. map token_of (filter is_some pieces)) (w.whole [] [] [] refl)
    ∙ ap (map token_of) (kept (text ++ []) [] (subst (λ t. is_some t ≡ true) (sym (append-nil text)) w.some))
    ∙ ap (λ t. token_of t ∷ []) (append-nil text) ∙ ap (λ t. t ∷ []) w.reads

-- a word after a space
after_space : (text rest : List ℕ) (token : EntryToken) → IsWord text token → tokens_of (text ++ 32 ∷ rest) ≡ token ∷ tokens_of rest
after_space text rest token w =
    ap (λ pieces. map token_of (filter is_some pieces)) (w.whole [] (pieces_of Outside rest) (32 ∷ rest) refl)
    ∙ ap (map token_of) (kept (text ++ []) (pieces_of Outside rest) (subst (λ t. is_some t ≡ true) (sym (append-nil text)) w.some))
    ∙ ap (λ t. token_of t ∷ tokens_of rest) (append-nil text) ∙ ap (λ t. t ∷ tokens_of rest) w.reads

pub word-follows : (word rest : List ℕ) (token : EntryToken) (tokens : List EntryToken) → IsWord word token → Follows rest tokens
    → Follows (32 ∷ (word ++ rest)) (token ∷ tokens)
word-follows word rest token tokens w f text first v = after_space text (word ++ rest) first v ∙ ap (λ ts. first ∷ ts) (f word token w)

-- a whole line
pub one-word : (word rest : List ℕ) (token : EntryToken) (tokens : List EntryToken) → IsWord word token → Follows rest tokens
    → tokens_of (word ++ rest) ≡ token ∷ tokens
one-word word rest token tokens w f = f word token w
