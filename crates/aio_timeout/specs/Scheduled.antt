-- A new handle of a timeout.
use Rattle.std.specs.Prelude.{ℕ, Option, None, Some}
use Rattle.model_loop.specs.Parts.{Parts}
use Rattle.model_loop.specs.Timeouts.{fires_at}
use Rattle.aio_task.specs.View.{View}
use Rattle.aio_task.specs.Keeps.{NameMap, Kept}
use Rattle.aio_timeout.specs.declared.handler.TimeoutHandler.{TimeoutHandler}
use Rattle.aio_timeout.specs.Kept.{IsHandler}

-- parts with a handle for a deadline, if there is one, and its tag
abbrev pub fires_if : ℕ → Option ℕ → Parts → Parts
fires_if id None p = p
fires_if id (Some when) p = fires_at id when p

abbrev pub tag_if : Option ℕ → Parts → Option ℕ
tag_if None p = None
tag_if (Some when) p = Some p.next_tag

-- From parts p, for which a view stood by this name map, the machine came to q, for which this one stands; and what has this
-- tag there is the handle that is kept.
pub record Made (t : NameMap) (p : Parts) (it : Option TimeoutHandler) (v : View) (q : Parts) (tag : Option ℕ) : Type 0 where
  pub kept : Kept t p v q
  pub handler : IsHandler kept.name_map q it tag
