-- A call in code that changes the loop's parts alone, by a tree that asks nothing.
use Rattle.std.specs.Prelude.{◌≡◌, List, []}
use Rattle.model_stream.specs.Doing.{Change, Doing, Ends}
use Rattle.aio_exchange.specs.Ways.{Move, Leads, had_on, changed_on}

pub record Tells {A V : Type 0} (change : Change → V → V) (doing : Doing A) (old new : V) (result : A) : Type 0 where
  pub way : List Move
  pub asks_none : had_on way ≡ []
  pub leads : Leads doing way (Ends result)
  pub parts : new ≡ changed_on change way old
