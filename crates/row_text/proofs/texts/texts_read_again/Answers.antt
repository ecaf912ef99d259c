use Rattle.std.specs.Prelude.{refl}
use Rattle.model_text.specs.Pieces.{piece_at}
use Rattle.model_text.specs.Tokens.{tokens_of, piece_tokens}
use Rattle.model_text.specs.Levels.{term_of}
use Rattle.model_text.specs.Forms.{form_of}
use Rattle.model_text.specs.FirstPass.{forms_from}
use Rattle.model_text.specs.SecondPass.{second_pass}
use Rattle.model_text.specs.Bodies.{statements_in}
use Rattle.model_text.specs.Scripts.{script_of}
use Rattle.row_text.proofs.texts.texts_read_again.Goals as goal

pub returns : goal.returns
unfolding tokens_of piece_at piece_tokens term_of form_of forms_from second_pass statements_in script_of
returns c = refl
