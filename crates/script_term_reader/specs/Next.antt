-- What one lexeme makes of the innermost expression, whatever brackets are open around it.
-- Source: the definition of how an expression is read (algorithm_reading, specs/Feeding.antt).
use Rattle.std.specs.Prelude.{◌≡◌, List, ◌∷◌, Option, None, Result, IfOk, option_and_then, reverse}
use Rattle.algorithm_reading.specs.Reader.{Open, TermProgress, ReaderState, reading}
use Rattle.script_term_reader.specs.declared.reader.AfterLexeme.{AfterLexeme}
use Rattle.script_term_reader.specs.declared.reader.AfterLexeme.TheVariants.{Goes, Opens, Fails}

abbrev pub applied : AfterLexeme → List Open → ReaderState
applied (Goes progress) opened = reading progress opened
applied (Opens bracket progress) opened = reading progress (bracket ∷ opened)
applied Fails opened = None

-- it makes this state of the brackets that are open, whatever they are
abbrev pub Arrives : (List Open → ReaderState) → AfterLexeme → Type 0
Arrives state next = (opened : List Open) → applied next opened ≡ state opened

-- the same, unless memory ran out
abbrev pub Sends : {E : Type 0} → (List Open → ReaderState) → Result AfterLexeme E → Type 0
Sends state next = IfOk next (Arrives state)

-- how far an expression has come, if it is one, with the open brackets, the innermost last
abbrev pub come : Option TermProgress → List Open → ReaderState
come progress opened = option_and_then (λ reached. reading reached (reverse opened)) progress

-- with these brackets open the expression has come to this state, unless memory ran out
abbrev pub Lands : {E : Type 0} → List Open → ReaderState → Result (Option TermProgress) E → Type 0
Lands opened state reached = IfOk reached (λ reached. come reached opened ≡ state)
