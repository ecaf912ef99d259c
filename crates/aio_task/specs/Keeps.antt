-- How the loop's parts in code stand for the machine's. The machine gives each handle and each timer a tag from one count and
-- each handle a stamp, has timers in order of scheduling, and keeps every future. The code has names, a bar and timers by
-- deadline, and releases futures.
use Rattle.std.specs.Prelude.{◌≡◌, ℕ, ◌<◌, ◌≤◌, ◌==◌, ◌||◌, Bool, true, List, ◌++◌, map}
use Rattle.std.specs.List.{AllByRecursion as Each}
use Rattle.model_loop.specs.Parts as plain
use Rattle.model_loop.specs.Parts.{Timer, Parts}
use Rattle.model_loop.specs.Futures.{next_future}
use Rattle.model_loop.specs.Handles.{by_deadline}
use Rattle.model_loop.specs.Numbered.{IsNumbered}
use Rattle.algorithm_parts.specs.Released.{release_from, AreDone}
use Rattle.aio_ready.specs.declared.handle.Handle.{Handle}
use Rattle.aio_ready.specs.declared.handle.HandleId.{HandleId}
use Rattle.aio_ready.specs.declared.handle.HandleName.{HandleName}
use Rattle.aio_ready.specs.declared.handle.HandleName.TheVariants as name
use Rattle.aio_ready.specs.Names.{is_same}
use Rattle.aio_ready.specs.Queue.{Queue}
use Rattle.aio_timer.specs.declared.live.TimerId.{TimerId}
use Rattle.aio_cancel.specs.Awaitables.{Appended}
use Rattle.aio_task.specs.View.{View, parts}

-- by what the code knows that to which the machine gave a tag
pub data Known : Type 0 where
  ByHandle : (id : HandleId) → Known
  ByTimer : (id : TimerId) → Known

abbrev pub name_of : Known → HandleName
name_of (ByHandle id) = id.name
name_of (ByTimer id) = name.Timer id.number

abbrev pub number_of : Known → ℕ
number_of (ByHandle id) = 0
number_of (ByTimer id) = id.number

-- What joins a view to the machine's parts and stands in neither: as what the code knows each tag, which futures it released,
-- and below which stamp handles stand before the bar.
pub record NameMap : Type 0 where
  pub known : ℕ → Known
  pub gone : ℕ → Bool
  pub bar : ℕ

-- ---- handles
-- a handle of the machine as the code has it
abbrev pub handle_as : (ℕ → Known) → plain.Handle → Handle
handle_as known handle = record { name = name_of (known handle.tag); action = handle.action; dead = handle.dead }

-- The handles in order, those before the bar and those after it.
pub record KeepsHandles (known : ℕ → Known) (bar : ℕ) (q : Queue) (p : Parts) : Type 0 where
  pub early : List plain.Handle
  pub late : List plain.Handle
  pub pending : p.pending ≡ early ++ late
  pub below : q.below ≡ map (handle_as known) early
  pub after : q.after ≡ map (handle_as known) late
  pub before_bar : Each (λ (handle : plain.Handle). handle.stamp < bar) early
  pub past_bar : Each (λ (handle : plain.Handle). bar ≤ handle.stamp) late
  pub bar_given : bar ≤ p.next_stamp

-- ---- timers
-- a timer of the machine as the code has it, which numbers timers alone
abbrev pub timer_as : (ℕ → Known) → Timer → Timer
timer_as known timer = record timer { tag = number_of (known timer.tag) }

-- it is known as a timer, of its deadline
abbrev pub IsTimer : Known → Timer → Type 0
IsTimer (ByHandle id) timer = ⊥
IsTimer (ByTimer id) timer = id.when ≡ timer.when

-- ---- names
-- of so many numbers of handles and of timers this one was given
abbrev pub WasGiven : (handles timers : ℕ) → HandleName → Type 0
WasGiven handles timers name.Nameless = Unit {0}
WasGiven handles timers (name.Given number) = number < handles
WasGiven handles timers (name.Timer number) = number < timers

-- Each tag that the machine gave has its own name, but that the code has names for so many alone. Names were given.
pub record AreNames (known : ℕ → Known) (next handles timers : ℕ) : Type 0 where
  pub given : (tag : ℕ) → tag < next → WasGiven handles timers (name_of (known tag))
  pub own : (tag other : ℕ) → tag < next → other < next → is_same (name_of (known tag)) (name_of (known other)) ≡ true
      → tag ≡ other

-- ---- the whole
-- The view stands for these parts.
pub record Keeps (t : NameMap) (v : View) (p : Parts) : Type 0 where
  pub time : v.time ≡ p.time
  pub handles : KeepsHandles t.known t.bar v.queue p
  pub timers : v.schedule.live ≡ map (timer_as t.known) (by_deadline p.timers)
  pub deadlines : Each (λ (timer : Timer). IsTimer (t.known timer.tag) timer) p.timers
  pub names : AreNames t.known p.next_tag v.queue.given v.schedule.next
  pub futures : v.futures ≡ release_from t.gone 0 p.futures
  -- what was released was made, and is done
  pub made : (id : ℕ) → t.gone id ≡ true → id < next_future p
  pub done : AreDone t.gone p
  pub tasks : v.tasks ≡ p.tasks
  pub numbered : IsNumbered p

-- A name map goes on: what the machine gave a tag is known as before, the same futures are gone, and the bar stands where it stood.
pub record Extends (p : Parts) (t : NameMap) (q : Parts) (u : NameMap) : Type 0 where
  pub known : (tag : ℕ) → tag < p.next_tag → u.known tag ≡ t.known tag
  pub tags : p.next_tag ≤ q.next_tag
  pub gone : u.gone ≡ t.gone
  pub bar : u.bar ≡ t.bar

-- one future more is released
abbrev pub release : ℕ → NameMap → NameMap
release id t = record t { gone = λ other. t.gone other || (other == id) }

-- what has a tag of the machine's is known by this
pub record Knows (t : NameMap) (p : Parts) (tag : ℕ) (it : Known) : Type 0 where
  pub given : tag < p.next_tag
  pub known : t.known tag ≡ it

-- From parts p, for which a view stood by this name map, the machine came to q, for which this one stands.
pub record Kept (t : NameMap) (p : Parts) (v : View) (q : Parts) : Type 0 where
  pub name_map : NameMap
  pub keeps : Keeps name_map v q
  pub extends : Extends p t q name_map

-- A call made these of the parts of a view: it appended to the queue alone, and left the time and the timers as they were.
pub record Becomes (v w : View) (after : Parts) : Type 0 where
  pub parts : parts w ≡ after
  pub queue : Appended v.queue w.queue
  pub time : w.time ≡ v.time
  pub schedule : w.schedule ≡ v.schedule
