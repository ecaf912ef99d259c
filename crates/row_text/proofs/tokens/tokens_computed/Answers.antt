-- Each line's tokens are computed.
use Rattle.std.proofs.Common.{refl}
use Rattle.model_text.specs.Pieces.{piece_at}
use Rattle.model_text.specs.Tokens.{tokens_of, piece_tokens}
use Rattle.row_text.proofs.tokens.tokens_computed.Goals as goal

pub returns-clause-assignment : goal.returns-clause-assignment
unfolding tokens_of piece_at piece_tokens
returns-clause-assignment c = refl

pub returns-clause-no_token : goal.returns-clause-no_token
unfolding tokens_of piece_at piece_tokens
returns-clause-no_token c = refl

pub returns-clause-empty : goal.returns-clause-empty
unfolding tokens_of piece_at piece_tokens
returns-clause-empty c = refl

pub returns-clause-longest : goal.returns-clause-longest
unfolding tokens_of piece_at piece_tokens
returns-clause-longest c = refl

pub returns-clause-text : goal.returns-clause-text
unfolding tokens_of piece_at piece_tokens
returns-clause-text c = refl

pub returns-clause-bytes : goal.returns-clause-bytes
unfolding tokens_of piece_at piece_tokens
returns-clause-bytes c = refl

pub returns-clause-leading_zeros : goal.returns-clause-leading_zeros
unfolding tokens_of piece_at piece_tokens
returns-clause-leading_zeros c = refl

pub returns-clause-number_too_great : goal.returns-clause-number_too_great
unfolding tokens_of piece_at piece_tokens
returns-clause-number_too_great c = refl

pub returns-clause-number_in_a_word : goal.returns-clause-number_in_a_word
unfolding tokens_of piece_at piece_tokens
returns-clause-number_in_a_word c = refl

pub returns-clause-lone_mark : goal.returns-clause-lone_mark
unfolding tokens_of piece_at piece_tokens
returns-clause-lone_mark c = refl

pub returns-clause-lone_slash : goal.returns-clause-lone_slash
unfolding tokens_of piece_at piece_tokens
returns-clause-lone_slash c = refl

pub returns-clause-tab : goal.returns-clause-tab
unfolding tokens_of piece_at piece_tokens
returns-clause-tab c = refl

pub returns-clause-tab_in_a_comment : goal.returns-clause-tab_in_a_comment
unfolding tokens_of piece_at piece_tokens
returns-clause-tab_in_a_comment c = refl

pub returns-clause-open : goal.returns-clause-open
unfolding tokens_of piece_at piece_tokens
returns-clause-open c = refl

pub returns-clause-wrong_escape : goal.returns-clause-wrong_escape
unfolding tokens_of piece_at piece_tokens
returns-clause-wrong_escape c = refl

pub returns-clause-too_great_in_a_text : goal.returns-clause-too_great_in_a_text
unfolding tokens_of piece_at piece_tokens
returns-clause-too_great_in_a_text c = refl

pub returns-clause-short_escape : goal.returns-clause-short_escape
unfolding tokens_of piece_at piece_tokens
returns-clause-short_escape c = refl
