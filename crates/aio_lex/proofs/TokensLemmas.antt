-- One more piece of a line.
use Rattle.std.proofs.Common.{◌≡◌, ℕ, ◌+◌, ◌-◌, ◌<◌, ◌≤◌, List, [], ◌∷◌, ◌++◌, length, take, drop, refl, sym, ap, ◌∙◌, arith, Result, Ok}
use Rattle.std.proofs.lemmas.List.{length-drop, drop-drop}
use Rattle.model_text.specs.Faults.{TokenFault, both_or_fault}
use Rattle.model_text.specs.Pieces.{piece_at, piece_text, pieces_of}
use Rattle.model_text.specs.Tokens.{Token, piece_tokens, tokens_in, tokens_of}
use Rattle.law_tokens.proofs.CutLemmas.{pieces_of-cons, length-piece_at}
use Rattle.law_tokens.proofs.PartLemmas.{nothing_and}
use Rattle.aio_lex.specs.Fronts.{first_piece}
use Rattle.aio_lex.proofs.SaidLemmas.{slice_rest, both_both}

-- what the pieces give behind some bytes of a rest
abbrev behind : ℕ → ℕ → List ℕ → Result (List Token) TokenFault
behind column len rest = tokens_in (column + len) (pieces_of (drop len rest))

first_tokens : (column : ℕ) (rest : List ℕ) (mine : List Token) → 0 < length rest → piece_tokens column (first_piece rest) ≡ Ok mine
    → tokens_in column (pieces_of rest) ≡ both_or_fault (Ok mine) (behind column (length (piece_text (first_piece rest))) rest)
first_tokens column [] mine some e = absurd (omega arith)
first_tokens column (byte ∷ bytes) mine some e =
    ap (tokens_in column) (pieces_of-cons byte bytes)
    ∙ ap (λ first. both_or_fault first (behind column (length (piece_text (piece_at byte bytes))) (byte ∷ bytes))) e

first_fits : (rest : List ℕ) → 0 < length rest → (0 < length (piece_text (first_piece rest))) × (length (piece_text (first_piece rest)) ≤ length rest)
first_fits [] some = absurd (omega arith)
first_fits (byte ∷ bytes) some = length-piece_at byte bytes

moved : (at len : ℕ) (line : List ℕ) (size : ℕ) → size ≡ len → behind (at + 1) size (drop at line)
    ≡ tokens_in ((at + len) + 1) (pieces_of (drop (at + len) line))
moved at len line size e =
    let place : (at + 1) + size ≡ (at + len) + 1 = omega arith in
    let rest : drop size (drop at line) ≡ drop (at + len) line = drop-drop size at line ∙ ap (λ k. drop k line) (omega arith) in
    rw (place, rest) refl

pub record TokensMore (at len : ℕ) (line : List ℕ) (before after : List Token) : Type 0 where
  pub within : at + len ≤ length line
  pub some : 0 < len
  pub tokens : both_or_fault (Ok before) (tokens_in (at + 1) (pieces_of (drop at line)))
      ≡ both_or_fault (Ok after) (tokens_in ((at + len) + 1) (pieces_of (drop (at + len) line)))

-- a piece that is judged well
pub tokens_more : (at len : ℕ) (line : List ℕ) (before mine : List Token) → at < length line
    → piece_tokens (at + 1) (first_piece (take (length line - at) (drop at line))) ≡ Ok mine → len
    ≡ length (piece_text (first_piece (take (length line - at) (drop at line)))) → TokensMore at len line before (before ++ mine)
tokens_more at len line before mine below gives size =
    let rest : List ℕ = drop at line in
    let same = slice_rest at line in
    let gives' = rw same at gives in
    let size' = sym (rw same at size) in
    let some : 0 < length rest = omega (arith, length-drop at line) in
    let fits = first_fits rest some in
    record {
      within = omega (arith, fits, length-drop at line);
      some = omega (arith, fits);
      tokens =
          ap (both_or_fault (Ok before)) (first_tokens (at + 1) rest mine some gives')
          ∙ (both_both before mine (behind (at + 1) (length (piece_text (first_piece rest))) rest)
          ∙ ap (both_or_fault (Ok (before ++ mine))) (moved at len line (length (piece_text (first_piece rest))) size'));
    }

-- the start
pub tokens_start : (line : List ℕ) → tokens_of line ≡ both_or_fault (Ok []) (tokens_in (0 + 1) (pieces_of (drop 0 line)))
unfolding tokens_of
tokens_start line = sym (nothing_and (tokens_in 1 (pieces_of line)))
