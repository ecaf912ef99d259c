-- What clauses say of a wire, as one record, and its laws.
use Rattle.model_wire.specs.Told.{WireSeen}
use Rattle.aio_wire.specs.Replied.{EndAgrees}

pub record Outside (W : Type 0) : Type 1 where
  -- What is left to answer, what it was asked and what it handed on, where that is told; how it ended, whether its answers fit, and
  -- how often it failed.
  pub seen : W → WireSeen
  -- that each call fails, where that is told
  pub fails : W → Type 0
  -- what stays from call to call, as which shelf a journal is read from
  pub keeps : W → W → Type 0
  -- what stays as long as no call fails, as all that is seen of that shelf
  pub quiet : W → W → Type 0
  -- It is out of answers only where none is left, and stands at a refused line only where that comes next.
  pub end_agrees : (wire : W) → EndAgrees (seen wire).end (seen wire).left
  -- Nothing is lost where nothing is asked, and what two calls keep one after another both keep.
  pub keeps_same : (wire : W) → keeps wire wire
  pub keeps_on : (before between after : W) → keeps before between → keeps between after → keeps before after
  pub quiet_same : (wire : W) → quiet wire wire
  pub quiet_on : (before between after : W) → quiet before between → quiet between after → quiet before after
