-- How timeouts in code stand for the machine's: they are the same ones, and what has a timeout's tag in the machine is the
-- handle that is kept in code.
use Rattle.std.specs.Prelude.{◌≡◌, ℕ, true, List, Option, None, Some, slice_get}
use Rattle.std.specs.List.{AllZip}
use Rattle.std.specs.Option.{option_map_or}
use Rattle.model_loop.specs.Parts.{Parts}
use Rattle.model_loop.specs.Loop as loop
use Rattle.model_loop.specs.Loop.{Loop}
use Rattle.aio_ready.specs.Names.{is_same}
use Rattle.aio_ready.specs.Queue.{Queue}
use Rattle.aio_task.specs.View.{View, NamesNoStep}
use Rattle.aio_task.specs.Keeps.{Known, ByHandle, ByTimer, NameMap, Keeps, Knows, Extends}
use Rattle.aio_timeout.specs.declared.handler.TimeoutHandler.{TimeoutHandler}
use Rattle.aio_timeout.specs.declared.handler.TimeoutHandler.TheVariants.{Soon, At}
use Rattle.aio_timeout.specs.declared.timeout.Timeout.{Timeout}
use Rattle.aio_timeout.specs.States.{state_of}

abbrev pub known_of : TimeoutHandler → Known
known_of (Soon id) = ByHandle id
known_of (At id) = ByTimer id

-- it has a name by which it can be cancelled
abbrev pub IsNamed : TimeoutHandler → Type 0
IsNamed (Soon id) = is_same id.name id.name ≡ true
IsNamed (At id) = Unit {0}

-- what has this tag is this handle, and there is none where there is no tag
abbrev pub IsHandler : NameMap → Parts → Option TimeoutHandler → Option ℕ → Type 0
IsHandler t p None None = Unit {0}
IsHandler t p None (Some tag) = ⊥
IsHandler t p (Some handler) None = ⊥
IsHandler t p (Some handler) (Some tag) = Knows t p tag (known_of handler) × IsNamed handler

pub record IsTimeout (t : NameMap) (p : Parts) (timeout : Timeout) (it : loop.Timeout) : Type 0 where
  pub state : state_of timeout.state ≡ it.state
  pub task : timeout.task ≡ it.task
  pub stored : timeout.stored ≡ it.stored
  pub handler : IsHandler t p timeout.handler it.tag

-- number by number
abbrev pub AreTimeouts : NameMap → Parts → List Timeout → List loop.Timeout → Type 0
AreTimeouts t p = AllZip (IsTimeout t p)

-- Timeouts and parts in code stand for those of a loop.
pub record KeepsTimeouts (t : NameMap) (items : List Timeout) (v : View) (l : Loop) : Type 0 where
  pub parts : Keeps t v l.parts
  pub timeouts : AreTimeouts t l.parts items l.timeouts

-- From a loop l, for which the code stood by this name map, the machine came to m, for which it stands now.
pub record KeptTimeouts (t : NameMap) (l : Loop) (timeouts : List Timeout) (v : View) (m : Loop) : Type 0 where
  pub name_map : NameMap
  pub keeps : KeepsTimeouts name_map timeouts v m
  pub extends : Extends l.parts t m.parts name_map

-- ---- what calls need and leave
-- the handle that the timeout of a number keeps
abbrev pub handler_at : ℕ → List Timeout → Option TimeoutHandler
handler_at id timeouts = option_map_or (λ (timeout : Timeout). timeout.handler) (slice_get timeouts id) None

-- a pending handle that is kept is no step of a task
abbrev pub StepsNone : Queue → Option TimeoutHandler → Type 0
StepsNone q None = Unit {0}
StepsNone q (Some (Soon id)) = NamesNoStep id.name q
StepsNone q (Some (At id)) = Unit {0}

-- the same task is running, or none, and the profile is the same
pub record IsSameStep (v w : View) : Type 0 where
  pub profile : w.profile ≡ v.profile
  pub running : w.running ≡ v.running
  pub called : w.called ≡ v.called
