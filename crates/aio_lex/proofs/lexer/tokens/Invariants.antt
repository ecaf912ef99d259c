-- The tokens so far, and then those of the rest, are the line's.
use Rattle.std.proofs.Common.{◌≡◌, ◌+◌, ◌-◌, ◌≤◌, length, drop, Ok}
use Rattle.model_text.specs.Faults.{both_or_fault}
use Rattle.model_text.specs.Pieces.{pieces_of}
use Rattle.model_text.specs.Tokens.{tokens_in, tokens_of}
use Rattle.aio_lex.proofs.lexer.tokens.Given as goal

abbrev pub invariant-loop-at : goal.invariant-loop-at
invariant-loop-at l = record {
  within : l.at ≤ length l.line;
  tokens : tokens_of l.line ≡ both_or_fault (Ok l.items.items) (tokens_in (l.at + 1) (pieces_of (drop l.at l.line)));
}

abbrev pub decreases-loop-at : goal.decreases-loop-at
decreases-loop-at l = length l.line - l.at
