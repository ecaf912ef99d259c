-- A callback of the loop's own that steps no task leaves the futures that the loop of itself doesn't hold, but for cancels.
use Rattle.std.proofs.Common.{◌≡◌, ℕ, ◌<◌, Bool, true, false, List, [], ◌∷◌, Option, Some, None, nat_lt, le_refl, refl, sym, subst, inl}
use Rattle.std.specs.List.{AllByRecursion as Each}
use Rattle.std.proofs.lemmas.Bool.{false≢true}
use Rattle.model_value.specs.Action.{Action}
use Rattle.model_value.specs.declared.action.Action.TheVariants as action
use Rattle.model_value.specs.Value.{Conn}
use Rattle.model_wire.specs.declared.event.Event.TheVariants as event
use Rattle.model_wire.specs.declared.event.Handed.TheVariants as to
use Rattle.model_loop.specs.Futures.{next_future}
use Rattle.model_loop.specs.Parts.{Handle}
use Rattle.model_loop.specs.Tasks.{future_of, next_task}
use Rattle.model_machine.specs.Extra.{Extra}
use Rattle.model_machine.specs.Replies.{most_ids}
use Rattle.model_machine.specs.State.{State, noted, unbooked_in, with_coroutine}
use Rattle.model_machine.specs.Turn.{effect, goes_with, handled_if, has_returned, made_by, ran, run_first, streams_go}
use Rattle.model_machine.specs.Went.{Stops, Went, state_of}
use Rattle.model_stream.specs.Doing.{Doing}
use Rattle.model_stream.specs.Requests.{close}
use Rattle.model_stream.specs.Streams.{Streams, act, handler_of}
use Rattle.law_cases.specs.Trees.{Keeping, KeepsStreams}
use Rattle.law_cases.proofs.Asking as asking
use Rattle.law_cases.proofs.Opening as opening
use Rattle.law_changes.specs.Changes.{LeavesPending, MakesTask, Registers, Settles, made_of_parts}
use Rattle.law_apart.specs.Apart.{EndsTheirs, HandleApart, IsApart, steps_or_extra}
use Rattle.law_apart.proofs.Loops.{child_done_safe, fire_safe}
use Rattle.law_apart.proofs.Requests.{Beside, StateBoth, beside_as, beside_same, beside_then, coroutine_beside, does_on, ends_streams, kept_own, loop_beside, own}
use Rattle.law_apart.proofs.Requests.{parts_beside}

module _ (ours : ℕ → Bool) (made : ℕ) (below : (future : ℕ) → ours future ≡ true → future < made) where
  module _ {S : Type 0} where
    abbrev GoesOn : State S → Went S → Type 0
    GoesOn s it = Beside ours made below s (state_of it)

    -- ---- of listeners, connections and children
    go_on : (tree : Doing Streams) (s : State S)
        → (IsApart ours made s
        → Keeping (KeepsStreams (own ours made below s) (next_future s.loop.parts) s.streams) (own ours made below s) (next_future s.loop.parts) tree)
        → GoesOn s (streams_go tree s)
    go_on tree s keeps = λ a.
        does_on ours made below Stops (λ it. StateBoth ours made below s (state_of it)) s (λ how last it. it)
        (KeepsStreams (own ours made below s) (next_future s.loop.parts) s.streams) (next_future s.loop.parts) tree goes_with s
        (beside_same ours made below s a) refl (keeps a)
        (λ streams t last here is left. ends_streams ours made below s t last streams a here is left.kept)

    acts_on : (returned : Bool) (it : Action) (s : State S) → GoesOn s (streams_go (act (next_future s.loop.parts) returned it s.streams) s)
    acts_on returned it s =
        go_on (act (next_future s.loop.parts) returned it s.streams) s
        (λ a. opening.acts (own ours made below s) (next_future s.loop.parts) returned it s.streams (kept_own ours made below s a)
        (le_refl _))

    handled_on : (b : Bool) (coroutine conn : ℕ) (s : State S) → GoesOn s (handled_if b coroutine conn s)
    handled_on true coroutine conn s =
        let t = unbooked_in (made_of_parts MakesTask) s in
        let u = with_coroutine coroutine (Conn conn ∷ []) t in
        beside_then ours made below s t _ (parts_beside ours made below MakesTask s (λ a. tt))
        (beside_then ours made below t u _ (coroutine_beside ours made below coroutine (Conn conn ∷ []) t)
        (parts_beside ours made below (Registers (future_of u.loop.parts (next_task s.loop.parts)) (action.HandlerDone conn (next_task s.loop.parts))) u
        (λ a. refl)))
    handled_on false coroutine conn s =
        go_on (close (to.Conn conn) s.streams) s
        (λ a. asking.closes (own ours made below s) (next_future s.loop.parts) (to.Conn conn) s.streams (kept_own ours made below s a))

    made_on : (handler : Option ℕ) (conn : ℕ) (s : State S) → GoesOn s (made_by handler conn s)
    made_on None conn s = beside_same ours made below s
    made_on (Some coroutine) conn s = handled_on (nat_lt (next_task s.loop.parts) most_ids) coroutine conn s

    -- ---- each
    module _ (limit : ℕ) (added : Extra S) where
      effect_on : (it : Action) (s : State S) → steps_or_extra it ≡ false → (IsApart ours made s → EndsTheirs ours (next_future s.loop.parts) it)
          → GoesOn s (effect limit added it s)
      unfolding effect
      effect_on (action.Step task) s other ends = absurd (false≢true (sym other))
      effect_on (action.StepInCycle task cycle) s other ends = absurd (false≢true (sym other))
      effect_on (action.Wakeup task) s other ends = absurd (false≢true (sym other))
      effect_on (action.ExtraItem code bytes) s other ends = absurd (false≢true (sym other))
      effect_on (action.Extra key) s other ends = absurd (false≢true (sym other))
      effect_on (action.SleepDone task future) s other ends = parts_beside ours made below (Settles future _) s (λ a. inl (ends a).0)
      effect_on (action.GroupDone group task) s other ends = loop_beside ours made below s _ (child_done_safe ours made below group task s.loop)
      effect_on (action.Fires timeout) s other ends = loop_beside ours made below s _ (fire_safe ours made below timeout s.loop)
      effect_on action.MainDone s other ends = beside_as ours made below s _ refl refl refl
      effect_on (action.Made conn) s other ends = made_on (handler_of conn s.streams) conn s
      effect_on (action.HandlerDone conn task) s other ends = acts_on (has_returned s.loop.parts task) (action.HandlerDone conn task) s
      effect_on (action.StartRead conn) s other ends = acts_on true (action.StartRead conn) s
      effect_on (action.Lost conn broken) s other ends = acts_on true (action.Lost conn broken) s
      effect_on (action.ReadableServer server) s other ends = acts_on true (action.ReadableServer server) s
      effect_on (action.Readable conn) s other ends = acts_on true (action.Readable conn) s
      effect_on (action.Writable conn) s other ends = acts_on true (action.Writable conn) s
      effect_on (action.Up conn) s other ends = acts_on true (action.Up conn) s
      effect_on (action.Down conn) s other ends = acts_on true (action.Down conn) s
      effect_on (action.WritableChild child) s other ends = acts_on true (action.WritableChild child) s
      effect_on (action.ChildItem child told) s other ends = acts_on true (action.ChildItem child told) s
      effect_on (action.LostChild child broken) s other ends = acts_on true (action.LostChild child broken) s

      pub first_on : (handle : Handle) (rest : List Handle) (s : State S) → s.loop.parts.pending ≡ handle ∷ rest → steps_or_extra handle.action ≡ false
          → IsApart ours made s → StateBoth ours made below s (state_of (run_first limit added handle rest s))
      first_on handle rest s first other a = at handle.dead
        where
          ends : EndsTheirs ours (next_future s.loop.parts) handle.action
          ends = (subst (Each (HandleApart ours (next_future s.loop.parts))) first a.loop.parts.pending).0

          at : (dead : Bool)
              → StateBoth ours made below s (state_of (ran limit added dead handle.action (unbooked_in (λ p. record p { pending = rest }) s)))
          at true = parts_beside ours made below (LeavesPending rest) s (λ b. (handle, first)) a
          at false =
              let out = unbooked_in (made_of_parts (LeavesPending rest)) s in
              let gone = noted (event.Ran handle.action) out in
              beside_then ours made below s out (state_of (effect limit added handle.action gone))
              (parts_beside ours made below (LeavesPending rest) s (λ b. (handle, first)))
              (beside_then ours made below out gone (state_of (effect limit added handle.action gone)) (beside_as ours made below out gone refl refl refl)
              (effect_on handle.action gone other (λ b. ends))) a
