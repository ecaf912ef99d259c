-- What is wrong in a line that has no tokens, and the rule that the first fault counts.
use Rattle.std.specs.Prelude.{ℕ, List, ◌++◌, Result, Ok, Err}

-- Each fault has a column, counted from 1.
pub data TokenFault : Type 0 where
  -- a byte that isn't allowed, or begins no token; a backslash that begins no escape
  BadByte : (column : ℕ) → TokenFault
  -- a number over the greatest one, or with a letter or _ behind it: the place of its first digit
  BadNumber : (column : ℕ) → TokenFault
  -- a literal that isn't closed in its line: its start
  OpenText : (column : ℕ) → TokenFault

-- The one list behind the other, or the first fault from the left.
abbrev pub both_or_fault : {A : Type 0} → Result (List A) TokenFault → Result (List A) TokenFault → Result (List A) TokenFault
both_or_fault (Ok xs) (Ok ys) = Ok (xs ++ ys)
both_or_fault (Ok xs) (Err fault) = Err fault
both_or_fault (Err fault) ys = Err fault
