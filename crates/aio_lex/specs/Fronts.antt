-- What stands at the front of bytes, by the definition's pieces and parts.
use Rattle.std.specs.Prelude.{◌≡◌, ℕ, List, [], ◌∷◌, length, Result, Ok, Err, option_to_list}
use Rattle.model_text.specs.Literals.{part_at}
use Rattle.model_text.specs.Pieces.{Piece, Blank, piece_at, piece_text}
use Rattle.model_text.specs.Tokens.{piece_tokens}
use Rattle.aio_lex.specs.declared.fault.LexFault.{LexFault}
use Rattle.aio_lex.specs.declared.front.Front.{Front}
use Rattle.aio_lex.specs.Faults.{IsFaultOf}

abbrev pub first_part : List ℕ → List ℕ
first_part [] = []
first_part (byte ∷ bytes) = part_at byte bytes

abbrev pub first_piece : List ℕ → Piece
first_piece [] = Blank
first_piece (byte ∷ bytes) = piece_at byte bytes

-- the token of a piece that begins in this column, and the piece's length, or its fault
abbrev pub FrontIs : ℕ → Piece → Result Front LexFault → Type 0
FrontIs column piece (Ok front) =
    (piece_tokens column piece ≡ Ok (option_to_list front.token)) × (front.len ≡ length (piece_text piece))
FrontIs column piece (Err fault) = IsFaultOf fault (piece_tokens column piece)
