-- The first fault of a line, told without a way to find it: what stands before the faulty piece is spaces and tokens.
use Rattle.std.specs.Prelude.{◌≡◌, ℕ, ◌+◌, List, ◌∷◌, ◌++◌, length, Err}
use Rattle.std.specs.List.{flat_map}
use Rattle.model_text.specs.Faults.{TokenFault}
use Rattle.model_text.specs.Pieces.{Piece, piece_text}
use Rattle.model_text.specs.Tokens.{Token, piece_tokens}
use Rattle.model_text.specs.Cuts.{Cuts}
use Rattle.model_text.specs.Lines.{Reads}

pub record FirstFault (line : List ℕ) (fault : TokenFault) : Type 0 where
  pub before : List Piece
  pub piece : Piece
  pub behind : List Piece
  pub cut : Cuts line (before ++ piece ∷ behind)
  pub tokens : List Token
  pub reads : Reads 1 (flat_map piece_text before) tokens
  pub faulty : piece_tokens (1 + length (flat_map piece_text before)) piece ≡ Err fault
