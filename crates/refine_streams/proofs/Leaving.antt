-- What a tree of streams leaves of the loop's parts, and of the futures that streams keep.
use Rattle.std.proofs.Common.{◌≡◌, ℕ, ◌+◌, ◌<◌, ◌≤◌, true, Some, None, length, refl, subst, arith}
use Rattle.model_loop.specs.Futures.{next_future}
use Rattle.model_loop.specs.Handles.{soon}
use Rattle.model_loop.specs.Owning.{OwnsFutures, is_plain}
use Rattle.model_loop.specs.Parts.{Parts}
use Rattle.model_loop.specs.Tasks.{future_of, next_task}
use Rattle.model_stream.specs.Kept.{times_asked}
use Rattle.model_stream.specs.Streams.{Streams}
use Rattle.model_machine.specs.State.{State}
use Rattle.law_changes.specs.Changes.{PartsChange, CallsSoon, MakesFuture, Settles, made_of_parts}
use Rattle.law_changes.proofs.Folds.{fold}
use Rattle.law_replies.proofs.Counts.{own_there}
use Rattle.law_steps.proofs.CancelSound.{plain_within}
use Rattle.law_cases.specs.Trees.{made_in}
use Rattle.law_cases.proofs.Fits.{made_before}
use Rattle.law_cases.specs.TreeEnd.{IsStreamsEnd, IsTreeEnd, MayInTree}
use Rattle.aio_body.proofs.Lasting.{Spares}
use Rattle.aio_body.proofs.Leaving.{Leaves, leaves_on, leaves_same}
use Rattle.aio_body.proofs.Left.{AreOwnMade, leaves_handles, leaves_make, leaves_settle}

-- ---- the loop's parts
own_made_on : (p q : Parts) → Leaves None p q → AreOwnMade p → AreOwnMade q
own_made_on p q leaves made task within =
    let here : task < next_task p = subst (λ n. task < n) leaves.tasks within in
    let own : future_of p task < next_future p = made task here in
    let same = leaves.goes_on.own task here in
    let more = leaves.goes_on.futures in
    omega (arith, own, same, more)

-- where each task's own future was made
abbrev LeavesMade : Parts → Parts → Type 0
LeavesMade p q = AreOwnMade p → Leaves None p q × AreOwnMade q

made_too : (p q : Parts) → Leaves None p q → AreOwnMade p → Leaves None p q × AreOwnMade q
made_too p q leaves made = (leaves, own_made_on p q leaves made)

change_leaves : (connections : ℕ) (change : PartsChange) (p : Parts) → MayInTree connections change p → LeavesMade p (made_of_parts change p)
change_leaves connections (CallsSoon it) p may made = made_too p (soon it p) (leaves_handles p (soon it p) refl refl refl) made
change_leaves connections (MakesFuture kind) p may made = made_too p (made_of_parts (MakesFuture kind) p) (leaves_make kind p made) made
change_leaves connections (Settles future outcome) p may made =
    made_too p (made_of_parts (Settles future outcome) p) (leaves_settle future outcome p (plain_within p future may.0).0) made
change_leaves connections _ p may made = absurd may

leaves_made_then : (p q r : Parts) → LeavesMade p q → LeavesMade q r → LeavesMade p r
leaves_made_then p q r first second made =
    let one = first made in
    let two = second one.1 in
    (leaves_on None p q r one.0 two.0, two.1)

pub tree_leaves : {S : Type 0} (s t : State S) → IsTreeEnd s t → OwnsFutures s.loop.parts → Leaves None s.loop.parts t.loop.parts
tree_leaves s t it owns =
    (fold LeavesMade (λ p made. (leaves_same p, made)) leaves_made_then (change_leaves (length s.streams.connections)) it.row (own_there s.loop.parts owns)).0

-- that a task waits for a future that was made since is new to no sleep's own
pub made_spares : (task on : ℕ) (p : Parts) (named : ℕ → Type 0) → next_future p ≤ on → Spares (Some (task, on)) p named
made_spares task on p named past other id new sleeper own =
    let within = (plain_within p id own.plain).1 in
    let same = new.1 in
    absurd (omega (arith, within, past, same))

-- ---- what streams keep: of what was plain before nothing more
pub fewer_kept : (p : Parts) (next : ℕ) (before after : Streams)
    → ((future : ℕ) → times_asked future after ≤ times_asked future before + made_in (next_future p) next future)
    → (id : ℕ) → is_plain p id ≡ true → times_asked id after ≤ times_asked id before
fewer_kept p next before after times id plain =
    let none = made_before (next_future p) next id (plain_within p id plain).1 in
    let most = times id in
    omega (arith, none, most)

pub kept_no_more : {S : Type 0} (s t : State S) (streams : Streams) → IsStreamsEnd s t streams → (id : ℕ) → is_plain s.loop.parts id ≡ true
    → times_asked id streams ≤ times_asked id s.streams
kept_no_more s t streams it = fewer_kept s.loop.parts (next_future t.loop.parts) s.streams streams it.asked
