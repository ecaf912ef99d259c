-- A call in code that does what a tree of streams says, and the machine that does that tree.
use Rattle.std.specs.Prelude.{◌≡◌, ℕ, ◌-◌, ◌^◌, List, ◌++◌, min}
use Rattle.model_wire.specs.Event.{Event}
use Rattle.model_loop.specs.Futures.{next_future}
use Rattle.model_stream.specs.Doing.{Doing, Ends}
use Rattle.model_stream.specs.Streams.{Streams}
use Rattle.model_machine.specs.Does.{does}
use Rattle.model_machine.specs.State.{State}
use Rattle.model_machine.specs.Went.{answers_in}
use Rattle.aio_wire.specs.EventList.{EventList}
use Rattle.aio_exchange.specs.Exchanged.{AllFit, entries_of, noted_by}
use Rattle.aio_exchange.specs.Follows.{Reach}
use Rattle.aio_exchange.specs.Ways.{Leads, Move, changed_on, had_on}
use Rattle.aio_task.specs.View.{View}
use Rattle.aio_change.specs.Seen.{seen_changed}
use Rattle.aio_extra.specs.Added.{Added}
use Rattle.aio_body.specs.Asking.{Piece, before}
use Rattle.aio_body.specs.Stands.{Context}
use Rattle.refine_streams.specs.Along.{along}

-- code's list has the events of a run that weren't taken out yet, after those that were, and how many answers it had
pub record IsNoted (past : List Event) (list : EventList) (events : List Event) : Type 0 where
  pub told : events ≡ past ++ list.events
  pub count : list.answers ≡ min (answers_in events) (2 ^ 64 - 1)

-- What a call of streams does, for whatever streams it stands: its tree, by the number of the future that is made next, and
-- what the machine does with what comes of it.
pub record Call (S A M : Type 0) : Type 0 where
  pub tree : ℕ → Streams → Doing A
  pub next : A → State S → M

-- The machine begins with this tree there. `Stood` says that code stands for streams, and `number` is the future that it makes
-- next.
pub record Begins {X A M R : Type 0} {a : Added X} (p : Piece a (State a.Kept) M R) (call : Call a.Kept A M) (Stood : Streams → Type 0)
    (number : ℕ) (list : EventList) (c : Context a) (s : State a.Kept) : Type 0 where
  pub noted : IsNoted c.past list s.events
  pub rest : s.answers ≡ c.answers
  pub streams : Stood s.streams
  pub made : next_future s.loop.parts ≡ number
  pub does : p.does s ≡ does p.ends (call.tree number s.streams) call.next s

-- It went a way to the tree's end, with this result.
pub record Passed {X W A M R : Type 0} {a : Added X} (p : Piece a (State a.Kept) M R) (call : Call a.Kept A M) (So : Streams → A → Type 0)
    (number : ℕ) (from to : Reach View W) (c : Context a) (s : State a.Kept) : Type 0 where
  pub way : List Move
  pub it : A
  pub began : p.from (before (had_on way) c) s
  pub leads : Leads (call.tree number s.streams) way (Ends it)
  pub fit : AllFit (had_on way)
  pub answers : s.answers ≡ entries_of (had_on way) ++ c.answers
  pub parts : to.parts ≡ changed_on seen_changed way from.parts
  pub events : to.port.events ≡ noted_by (had_on way) from.port.events
  pub does : p.does s ≡ call.next it (along way c.answers s)
  pub so : So s.streams it
