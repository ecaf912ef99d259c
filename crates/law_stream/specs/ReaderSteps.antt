-- What happens to a reader, step by step, and what is fed and taken in the steps.
use Rattle.std.specs.Prelude.{◌≡◌, ℕ, ◌-◌, List, [], ◌∷◌, ◌++◌, None, length, take, drop}
use Rattle.model_value.specs.Value.{Exc}
use Rattle.model_stream.specs.declared.read_op.Taken.TheVariants.{Bytes, Raises, Needs}
use Rattle.model_stream.specs.Reading.{Reading, ReadOp, Taken, Take, feed, feed_eof, fail, resume, take_read, after_take, first_at, newline}

-- the bytes that an operation gives are these
abbrev pub Gives : Taken → List ℕ → Type 0
Gives (Bytes bytes) front = bytes ≡ front
Gives (Raises fault) front = Unit {0}
Gives Needs front = Unit {0}

-- an operation takes so many of the first bytes held
pub record TakesFront (t : Take) (held : List ℕ) : Type 0 where
  pub count : ℕ
  pub rest : t.rest ≡ drop count held
  pub given : Gives t.answer (take count held)

-- it raises, and leaves the reader as it is
pub record RaisesAlone (t : Take) (r : Reading) : Type 0 where
  pub fault : Exc
  pub answer : t.answer ≡ Raises fault
  pub after : after_take t r ≡ r

pub data ReaderStep : Type 0 where
  Feeds : (piece : List ℕ) → ReaderStep
  FeedsEnd : ReaderStep
  Fails : (fault : Exc) → ReaderStep
  Resumes : ReaderStep
  Takes : (op : ReadOp) → ReaderStep

abbrev pub after : ReaderStep → Reading → Reading
after (Feeds piece) r = feed piece r
after FeedsEnd r = feed_eof r
after (Fails fault) r = fail fault r
after Resumes r = resume r
after (Takes op) r = after_take (take_read op r) r

abbrev pub fed_in : ReaderStep → List ℕ
fed_in (Feeds piece) = piece
fed_in _ = []

-- the front of what was held that is no more
abbrev pub taken_away : (held rest : List ℕ) → List ℕ
taken_away held rest = take (length held - length rest) held

-- what an operation took
abbrev pub gone_in : ReaderStep → Reading → List ℕ
gone_in (Takes op) r = taken_away r.held (take_read op r).rest
gone_in _ r = []

-- what was held as it failed: no operation gives it
abbrev pub let_go_in : ReaderStep → Reading → List ℕ
let_go_in (Fails fault) r = r.held
let_go_in _ r = []

-- ---- in all steps
abbrev pub all_after : List ReaderStep → Reading → Reading
all_after [] r = r
all_after (step ∷ steps) r = all_after steps (after step r)

abbrev pub fed : List ReaderStep → List ℕ
fed [] = []
fed (step ∷ steps) = fed_in step ++ fed steps

abbrev pub gone : List ReaderStep → Reading → List ℕ
gone [] r = []
gone (step ∷ steps) r = gone_in step r ++ gone steps (after step r)

abbrev pub let_go : List ReaderStep → Reading → List ℕ
let_go [] r = []
let_go (step ∷ steps) r = let_go_in step r ++ let_go steps (after step r)

-- ---- pieces one after another
abbrev pub joined : List (List ℕ) → List ℕ
joined [] = []
joined (piece ∷ pieces) = piece ++ joined pieces

abbrev pub feed_all : List (List ℕ) → Reading → Reading
feed_all [] r = r
feed_all (piece ∷ pieces) r = feed_all pieces (feed piece r)

-- a reader that didn't fail holds a line and its newline, and more
pub record HoldsLine (text rest : List ℕ) (r : Reading) : Type 0 where
  pub is_line : first_at newline text ≡ None
  pub not_failed : r.failed ≡ None
  pub held : r.held ≡ text ++ 10 ∷ rest
