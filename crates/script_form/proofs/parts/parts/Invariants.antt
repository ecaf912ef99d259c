-- What the lexemes so far give, and then those of the rest, are the parts.
use Rattle.std.proofs.Common.{◌≡◌, ◌-◌, ◌≤◌, ◌++◌, take, drop, map}
use Rattle.script_term.specs.Lexeme.{plain_lexeme}
use Rattle.script_form.specs.Parts.{plain_part}
use Rattle.script_form.proofs.PartLemmas.{slots, fronted}
use Rattle.script_form.proofs.parts.parts.Given as goal

abbrev pub invariant-loop-at : goal.invariant-loop-at
invariant-loop-at l = record {
  within : l.start ≤ l.at;
  deep : l.depth ≤ l.at;
  cut :
      slots 0 (map plain_lexeme l.lexemes) ≡ map plain_part l.parts.items
      ++ fronted (map plain_lexeme (take (l.at - l.start) (drop l.start l.lexemes))) (slots l.depth (map plain_lexeme (drop l.at l.lexemes)));
}
