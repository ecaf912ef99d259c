-- The text of a journal that was written answer by answer.
use Rattle.std.specs.Prelude.{◌≡◌, ℕ, true, List, ◌++◌, flat_map, codes}
use Rattle.model_wire.specs.Call.{Call, Answer, written}
use Rattle.model_wire.specs.Fits.{fits}
use Rattle.law_journal.specs.InRange.{InRange}

-- a line for each answer
abbrev pub journal_text : List Answer → List ℕ
journal_text answers = flat_map (λ answer. written answer ++ codes "\n") answers

-- some call may be answered so, by numbers in range
abbrev pub MayBeAnswered : Answer → Type 0
MayBeAnswered answer = (call : Call) × (fits call answer ≡ true) × InRange answer
