-- What callbacks of listeners, connections and children come to is sound; among them the start of a connection's handler.
use Rattle.std.proofs.Common.{◌≡◌, ℕ, ◌+◌, ◌<◌, ◌==◌, cond, Bool, true, false, [], ◌∷◌, None, length, refl, ap, sym, ◌∙◌, length-append, arith}
use Rattle.std.proofs.lemmas.Bool.{eq-eqb, lt-ltb, false≢true}
use Rattle.model_value.specs.declared.action.Action.TheVariants as action
use Rattle.model_value.specs.declared.action.Action.TheVariants.{Step}
use Rattle.model_value.specs.Value.{Conn}
use Rattle.model_loop.specs.Futures.{register}
use Rattle.model_loop.specs.Parts.{Parts}
use Rattle.model_loop.specs.Tasks.{future_of, lives, next_task, spawn}
use Rattle.model_loop.specs.Totals.{pending_where}
use Rattle.model_machine.specs.Extra.{Extra}
use Rattle.model_machine.specs.Sound.{IsStateSound, blocks_of, ids_of, names_made}
use Rattle.model_machine.specs.State.{State, unbooked_in, with_coroutine}
use Rattle.model_machine.specs.Went.{Went}
use Rattle.law_cases.specs.StreamReplies.{StreamGoes, stays_so, goes_so, stops, handles}
use Rattle.law_steps.proofs.Settling.{soon-where}
use Rattle.law_turns.specs.After.{is_step, IsAfter, IsLoopAfter}
use Rattle.law_turns.proofs.Loops.{parts_loop}
use Rattle.law_turns.proofs.Made.{register_after, spawn_after}
use Rattle.law_turns.proofs.Parts.{after_on}
use Rattle.law_turns.specs.SoundState.{HasSoundLoop}
use Rattle.law_turns.proofs.Streaming.{end_sound, goes_sound}
use Rattle.law_replies.specs.InStep.{LeavesStateSound, SameTapes}
use Rattle.law_replies.proofs.Blocks.{open_kept}
use Rattle.law_replies.proofs.Counts.{and_both, count_unbegun, lives_before}
use Rattle.law_replies.proofs.Given.{spawn_keeps, spawned_blocks}
use Rattle.law_replies.proofs.Keeping.{apart_of, futures_kept, open_of, with_open}
use Rattle.law_replies.proofs.Kept.{futures_stay}
use Rattle.law_replies.proofs.Replacing.{streams_replaced}
use Rattle.law_replies.proofs.Nobody.{nobody, over_as}
use Rattle.law_replies.proofs.Streaming.{end_loop, end_replaces, end_tapes}

-- ---- a new task's first step is pending
pub spawned_step : (p : Parts) → 0 < pending_where (is_step (next_task p)) (spawn p).pending
spawned_step p =
    let a = soon-where (is_step (next_task p)) (Step (next_task p)) p in
    let b : ◌≡◌ {A = ℕ} (cond (next_task p == next_task p) 1 0) 1 = ap (λ x. cond x 1 0) (eq-eqb (next_task p) (next_task p) refl) in
    omega (arith, a, b)

module _ {S : Type 0} (added : Extra S) (s : State S) (sound : IsStateSound added s) where
  -- ---- a handler is made, and its end is told
  module _ (coroutine conn : ℕ) (there : conn < length s.streams.connections) where
    abbrev made : Parts
    made = register (future_of (spawn s.loop.parts) (next_task s.loop.parts)) (action.HandlerDone conn (next_task s.loop.parts)) (spawn s.loop.parts)

    abbrev t : State S
    t = unbooked_in (λ p. made) s

    a : IsLoopAfter (names_made (ids_of s)) true None None None None s.loop t.loop
    a =
        parts_loop (names_made (ids_of s)) refl true None None None None s.loop made
        (after_on (names_made (ids_of s)) true None s.loop.parts (spawn s.loop.parts) made
        (register_after (names_made (ids_of s)) true None _ (action.HandlerDone conn (next_task s.loop.parts)) (spawn s.loop.parts) refl)
        (spawn_after (names_made (ids_of s)) None s.loop.parts))

    told_after : IsAfter (names_made (ids_of s)) false None (spawn s.loop.parts) made
    told_after = register_after (names_made (ids_of s)) false None _ (action.HandlerDone conn (next_task s.loop.parts)) (spawn s.loop.parts) refl

    more : next_task made ≡ next_task s.loop.parts + 1
    more = told_after.same refl ∙ length-append s.loop.parts.tasks _

    begun : 0 < pending_where (is_step (next_task s.loop.parts)) made.pending
    begun = let b = told_after.steps (next_task s.loop.parts) refl in let c = spawned_step s.loop.parts in omega (arith, b, c)

    tapes : SameTapes s t
    tapes = record { program = refl; generators = refl; streams = refl; extra = refl; scripts = futures_stay }

    over : t.main_done ≡ true → lives made 0 ≡ false
    over done = at (lives made 0) refl
      where
        at : (b : Bool) → lives made 0 ≡ b → lives made 0 ≡ false
        at false e = e
        at true e =
            absurd (false≢true (sym (sound.main_over done)
            ∙ lives_before _ _ None s.loop.parts made a.parts sound.loop.parts.owns 0 sound.main_told.made e))

    handler_sound : HasSoundLoop t → IsStateSound added (with_coroutine coroutine (Conn conn ∷ []) t)
    handler_sound loop =
        with_open added None None (with_coroutine coroutine (Conn conn ∷ []) t)
        (spawn_keeps added None coroutine (Conn conn ∷ []) s t tapes a more (apart_of added None None s sound) loop
        (count_unbegun made (next_task s.loop.parts) begun) over
        (and_both _ _ (lt-ltb conn (length s.streams.connections) there) refl) (futures_kept s t refl refl (λ id h. a.parts.plain id h) sound.futures))
        (open_kept _ _ None None s.loop t.loop (blocks_of s) (blocks_of (with_coroutine coroutine (Conn conn ∷ []) t)) a
        (spawned_blocks added None coroutine (Conn conn ∷ []) s t tapes a more (apart_of added None None s sound)) (open_of added None None s sound.blocks))

  pub goes_in : (it : Went S) → StreamGoes s it → LeavesStateSound added it
  goes_in it stays_so = sound
  goes_in it (goes_so t streams end) =
      streams_replaced added None None t streams
      (end_replaces s t t streams end sound.streams sound.kept_once sound.futures end.ended.futures end.ended.streams (λ future h. h))
      (nobody added s sound t (end_tapes None s t end.ended) end.ended.futures
      (λ done. over_as added s sound t.loop (end_loop None s t end.ended) (sym end.ended.main_done ∙ done)) (end_loop None s t end.ended)
      (end_sound None s t end.ended sound.loop))
  goes_in it (stops how last end) = tt
  goes_in it (handles coroutine conn few there) = handler_sound coroutine conn there (goes_sound s it (handles coroutine conn few there) sound.loop)
