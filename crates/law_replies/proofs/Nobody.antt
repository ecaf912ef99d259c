-- A step of the loop that resumes nobody leaves a sound state.
use Rattle.std.proofs.Common.{◌≡◌, Bool, true, false, None, refl, sym, ◌∙◌}
use Rattle.std.proofs.lemmas.Bool.{false≢true}
use Rattle.model_loop.specs.Loop.{Loop}
use Rattle.model_loop.specs.Tasks.{lives}
use Rattle.model_machine.specs.Extra.{Extra}
use Rattle.model_machine.specs.Sound.{IsStateSound, blocks_of, ids_of, names_made}
use Rattle.model_machine.specs.State.{State}
use Rattle.law_turns.specs.SoundState.{HasSoundLoop}
use Rattle.law_turns.specs.After.{IsLoopAfter}
use Rattle.law_replies.specs.InStep.{SameTapes}
use Rattle.law_replies.proofs.Blocks.{open_kept}
use Rattle.law_replies.proofs.Counts.{lives_before}
use Rattle.law_replies.proofs.Ids.{loop_more}
use Rattle.law_replies.proofs.Keeping.{apart_of, open_of, with_open, tapes_blocks, futures_kept, loop_keeps, stays_stood, leaves_none}

module _ {S : Type 0} (added : Extra S) (s : State S) (sound : IsStateSound added s) where
  pub nobody : (t : State S) → SameTapes s t → t.futures ≡ s.futures → (t.main_done ≡ true → lives t.loop.parts 0 ≡ false)
      → IsLoopAfter (names_made (ids_of s)) false None None None None s.loop t.loop → HasSoundLoop t → IsStateSound added t
  nobody t tapes futures over a loop =
      with_open added None None t
      (loop_keeps added s t tapes None None None None a.parts (a.parts.same refl) (loop_more s t tapes a) loop (λ other f. f) over
      (stays_stood added s t tapes None None None None _ _ None None None a (λ other id f e r. refl))
      (leaves_none added s t tapes None None None None _ _ None None None a (λ id f. (refl, refl)))
      (futures_kept s t futures tapes.streams (λ id h. a.parts.plain id h) sound.futures) (apart_of added None None s sound))
      (open_kept _ _ None None s.loop t.loop (blocks_of s) (blocks_of t) a (tapes_blocks added s t tapes None None None None)
      (open_of added None None s sound.blocks))

  pub over_as : (l : Loop) → IsLoopAfter (names_made (ids_of s)) false None None None None s.loop l → s.main_done ≡ true
      → lives l.parts 0 ≡ false
  over_as l a done = at (lives l.parts 0) refl
    where
      at : (b : Bool) → lives l.parts 0 ≡ b → lives l.parts 0 ≡ false
      at false e = e
      at true e =
          absurd (false≢true (sym (sound.main_over done)
          ∙ lives_before _ _ None s.loop.parts l.parts a.parts sound.loop.parts.owns 0 sound.main_told.made e))
