-- What each callback of a listener, a connection or a child comes to is one of the cases, whatever is open.
use Rattle.std.proofs.Common.{◌≡◌, ℕ, ◌<◌, Bool, true, false, Option, Some, None, length, nat_lt, slice_get, le_refl, refl}
use Rattle.std.proofs.lemmas.Bool.{false≢true, ltb-true}
use Rattle.std.proofs.lemmas.Option.{none-some}
use Rattle.model_value.specs.declared.action.Action.TheVariants as action
use Rattle.model_value.specs.Action.{Action}
use Rattle.model_wire.specs.declared.event.Handed.TheVariants as to
use Rattle.model_loop.specs.Futures.{next_future}
use Rattle.model_loop.specs.Tasks.{next_task}
use Rattle.model_stream.specs.Connections.{Connection}
use Rattle.model_stream.specs.Doing.{Doing}
use Rattle.model_stream.specs.Requests.{close}
use Rattle.model_stream.specs.Streams.{Streams, act, handler_of}
use Rattle.model_machine.specs.Extra.{Extra}
use Rattle.model_machine.specs.Replies.{most_ids}
use Rattle.model_machine.specs.Sound.{AreStreamsFutures}
use Rattle.model_machine.specs.State.{State}
use Rattle.model_machine.specs.Turn.{effect, goes_with, handled_if, has_returned, made_by, streams_go}
use Rattle.model_machine.specs.Went.{Stops}
use Rattle.law_cancel.proofs.Lookups.{get_within}
use Rattle.law_cases.specs.Trees.{Keeping, KeepsStreams, is_of_streams}
use Rattle.law_cases.proofs.Asking.{closes}
use Rattle.law_cases.proofs.Opening.{acts}
use Rattle.law_cases.specs.StreamReplies.{StreamGoes, goes_so, handles, stays_so, stops}
use Rattle.law_cases.specs.TreeEnd.{owned_in}
use Rattle.law_cases.proofs.Ending.{tree_ends}
use Rattle.law_cases.proofs.Replying.{end_keeps}

module _ {S : Type 0} (s : State S) (kept : AreStreamsFutures s) where
  tree_is : (tree : Doing Streams)
      → Keeping (KeepsStreams (owned_in s) (next_future s.loop.parts) s.streams) (owned_in s) (next_future s.loop.parts) tree
      → StreamGoes s (streams_go tree s)
  tree_is tree keeps =
      tree_ends Stops (StreamGoes s) s stops (KeepsStreams (owned_in s) (next_future s.loop.parts) s.streams) goes_with
      (λ streams t it k. goes_so t streams (end_keeps s t streams it k)) tree keeps

  acts_is : (returned : Bool) (it : Action) → StreamGoes s (streams_go (act (next_future s.loop.parts) returned it s.streams) s)
  acts_is returned it =
      tree_is (act (next_future s.loop.parts) returned it s.streams) (acts (owned_in s) (next_future s.loop.parts) returned it s.streams kept (le_refl _))

  made_is : (handler : Option ℕ) (conn : ℕ) → handler_of conn s.streams ≡ handler → StreamGoes s (made_by handler conn s)
  made_is None conn is = stays_so
  made_is (Some coroutine) conn is = at (nat_lt (next_task s.loop.parts) most_ids) refl
    where
      -- a connection has a handler where it is there
      there : (found : Option Connection) → slice_get s.streams.connections conn ≡ found
          → elim found [ None ↦ None | Some c ↦ c.handler ] ≡ Some coroutine → conn < length s.streams.connections
      there None e h = absurd (none-some coroutine h)
      there (Some c) e h = get_within s.streams.connections conn c e

      at : (b : Bool) → nat_lt (next_task s.loop.parts) most_ids ≡ b → StreamGoes s (handled_if b coroutine conn s)
      at true e = handles coroutine conn (ltb-true (next_task s.loop.parts) most_ids e) (there (slice_get s.streams.connections conn) refl is)
      at false e =
          tree_is (close (to.Conn conn) s.streams) (closes (owned_in s) (next_future s.loop.parts) (to.Conn conn) s.streams kept)

  pub effect_is : (limit : ℕ) (added : Extra S) (it : Action) → is_of_streams it ≡ true → StreamGoes s (effect limit added it s)
  unfolding effect
  effect_is limit added (action.Made conn) is = made_is (handler_of conn s.streams) conn refl
  effect_is limit added (action.HandlerDone conn task) is = acts_is (has_returned s.loop.parts task) (action.HandlerDone conn task)
  effect_is limit added (action.StartRead conn) is = acts_is true (action.StartRead conn)
  effect_is limit added (action.Lost conn broken) is = acts_is true (action.Lost conn broken)
  effect_is limit added (action.ReadableServer server) is = acts_is true (action.ReadableServer server)
  effect_is limit added (action.Readable conn) is = acts_is true (action.Readable conn)
  effect_is limit added (action.Writable conn) is = acts_is true (action.Writable conn)
  effect_is limit added (action.Up conn) is = acts_is true (action.Up conn)
  effect_is limit added (action.Down conn) is = acts_is true (action.Down conn)
  effect_is limit added (action.WritableChild child) is = acts_is true (action.WritableChild child)
  effect_is limit added (action.ChildItem child told) is = acts_is true (action.ChildItem child told)
  effect_is limit added (action.LostChild child broken) is = acts_is true (action.LostChild child broken)
  effect_is limit added _ is = absurd (false≢true is)
