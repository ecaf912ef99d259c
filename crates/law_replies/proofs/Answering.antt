-- An answer leaves the step sound, and a wait the whole state, where nothing of the open blocks changed.
use Rattle.std.proofs.Common.{◌≡◌, ℕ, ◌<◌, ◌⊎◌, inl, inr, Bool, true, false, not, List, [], Option, Some, None, length, slice_get}
use Rattle.std.proofs.Common.{slice_index_or, is_none, refl, sym, ap, subst, ◌∙◌, arith}
use Rattle.std.specs.Option.{option_map_or}
use Rattle.std.proofs.lemmas.Bool.{cases_eq, eq-eqb, false≢true}
use Rattle.std.proofs.lemmas.Option.{none-some}
use Rattle.model_value.specs.Input.{Input}
use Rattle.model_value.specs.declared.request.Request.TheVariants as request
use Rattle.model_value.specs.Request.{Request}
use Rattle.model_value.specs.Value.{Value, Fut, Task}
use Rattle.model_says.specs.Blocks.{open_with}
use Rattle.model_says.specs.Endings.{Asks}
use Rattle.model_says.specs.Says.{step_limit}
use Rattle.model_loop.specs.Futures.{future_outcome, outcome_at, is_pending, is_pending_at}
use Rattle.model_loop.specs.Groups.{group_of}
use Rattle.model_loop.specs.Parts.{Future}
use Rattle.model_loop.specs.Tasks.{future_of, lives, next_task}
use Rattle.model_loop.specs.Ways.{is_running}
use Rattle.model_machine.specs.Arguments.{as_awaited}
use Rattle.model_machine.specs.Extra.{Extra}
use Rattle.model_machine.specs.Sound.{AreScriptsFutures, IsStateSound, StandsRightly, blocks_of, ids_of, names_block, names_made, sends_made, stands_at}
use Rattle.model_machine.specs.Sound.{IsLeft, IsOpenedAt}
use Rattle.model_stream.specs.Streams.{Streams}
use Rattle.model_machine.specs.State.{ResumePoint, Asked, Leaving, Generator, State, generator, generator_of, resumed, stands, with_streams}
use Rattle.model_machine.specs.Step.{says_of}
use Rattle.law_turns.specs.Replied.{RunsSound, HasPlainFutures}
use Rattle.law_turns.specs.SoundState.{HasSoundLoop}
use Rattle.law_says.specs.Given.{InSaying}
use Rattle.law_turns.specs.After.{IsAfter, IsLoopAfter}
use Rattle.law_replies.specs.InStep.{IsStepSound, IsAsked, MayStandAt, SameTapes}
use Rattle.law_replies.proofs.Blocks.{open_kept}
use Rattle.law_replies.proofs.Counts.{get_there, and_first, and_second, and_both, lives_within, own_there, lives_before, of_plain}
use Rattle.law_replies.proofs.Given.{Made, said_made, asked_sleeps, asked_leaves}
use Rattle.law_replies.proofs.Ids.{loop_more, made_task}
use Rattle.law_replies.proofs.Keeping.{IsApart, apart_of, open_of, with_open, joined, says_same, tapes_blocks, loop_keeps, stays_stood, leaves_none}
use Rattle.law_replies.proofs.Keeping.{resumed_blocks, resumed_others, resumed_resume_point, resumed_begun, answer_keeps, stood_resume_point, stood_tape}
use Rattle.law_replies.proofs.Keeping.{stood_says}
use Rattle.law_replies.proofs.Keeping.{stood_blocks, stands_keeps}
use Rattle.law_replies.proofs.Replacing.{Replaces, over_replaced}

-- ---- a future that isn't done is pending
pub pending_of : {S : Type 0} (s : State S) (on : ℕ) (future : Future) → slice_get s.loop.parts.futures on ≡ Some future
    → future_outcome s.loop.parts on ≡ None → is_pending s.loop.parts on ≡ true
pending_of s on future e none = ap is_pending_at e ∙ ap is_none (sym (ap outcome_at e) ∙ none)

pub plain_futures : {S : Type 0} (s : State S) → AreScriptsFutures s → HasPlainFutures s
plain_futures s is id on e = let f = is.plain id on e in of_plain s.loop.parts on f.0 f.1 f.2

pub stands_asked : {S : Type 0} (s : State S) (task : ℕ) → (generator_of task s).resume_point ≡ Asked → StandsRightly s task
stands_asked s task e = record {
  sleeping = λ tag h. absurd (asked_sleeps tag (sym e ∙ h));
  leaving = λ id h. absurd (asked_leaves id (sym e ∙ h));
  leaving_now = λ id h. absurd (asked_leaves id (sym e ∙ h));
  opened = subst (IsOpenedAt s.streams) (sym e) tt;
}

-- ---- groups that are being left were so before
pub left_before : {S : Type 0} (s t : State S) (test : Value → Bool) (grown : Bool) (excused timeout group begun : Option ℕ)
    → IsLoopAfter test grown excused timeout group begun s.loop t.loop → (id : ℕ) → is_running group id ≡ false → is_running begun id ≡ false
    → IsLeft t id → IsLeft s id
left_before s t test grown excused timeout group begun a id f k e =
    let g = a.groups id in
    and_both (group_of s.loop id).exiting (not (group_of s.loop id).ended)
    (sym (g.still k) ∙ and_first (group_of t.loop id).exiting (not (group_of t.loop id).ended) e)
    (sym (ap not (g.ended f)) ∙ and_second (group_of t.loop id).exiting (not (group_of t.loop id).ended) e)

module _ {S : Type 0} (added : Extra S) (task : ℕ) (stood : ResumePoint) (asked : Request) (s : State S) (is : IsAsked added task stood asked s) where
  pub half : IsApart (Some task) (Some task) added s
  half = apart_of added (Some task) (Some task) s is.others

  pub alive : lives s.loop.parts task ≡ true
  alive = is.others.loop.parts.runs task (eq-eqb task task refl)

  pub within : task < length s.generators
  within = let w = lives_within s.loop.parts task alive in let c = is.others.generators in omega (arith, w, c)

  -- what is awaited is there
  pub awaited_there : (x : Value) (on : ℕ) → asked ≡ request.Await x → as_awaited s x ≡ Some on → future_outcome s.loop.parts on ≡ None
      → is_pending s.loop.parts on ≡ true
  awaited_there (Fut id) on a e none = let f = is.others.futures.plain id on e in pending_of s on f.0 f.1 none
  awaited_there (Task id) on a e none =
      let made = subst (λ q. InSaying (Made (ids_of s)) (Asks q)) a
      (subst (InSaying (Made (ids_of s))) is.says (said_made added (Some task) (Some task) s half task)) in
      let there = own_there s.loop.parts is.others.loop.parts.owns id (made_task (ids_of s) id made) in
      let same : future_of s.loop.parts id ≡ on = ap (λ o. option_map_or (λ (y : ℕ). y) o on) e in
      let f = get_there s.loop.parts.futures on (omega (arith, there, same)) in
      pending_of s on f.0 f.1 none
  awaited_there _ on a e none = absurd (none-some on e)

  module _ (t : State S) (tapes : SameTapes s t) (scripts : AreScriptsFutures t) (main : t.main_done ≡ s.main_done)
      (made : next_task t.loop.parts ≡ next_task s.loop.parts) where
    over : (excused : Option ℕ) → IsAfter (names_made (ids_of s)) false excused s.loop.parts t.loop.parts
        → t.main_done ≡ true → lives t.loop.parts 0 ≡ false
    over excused a done = at (lives t.loop.parts 0) refl
      where
        at : (b : Bool) → lives t.loop.parts 0 ≡ b → lives t.loop.parts 0 ≡ false
        at false e = e
        at true e =
            absurd (false≢true (sym (is.others.main_over (sym main ∙ done))
            ∙ lives_before _ _ excused s.loop.parts t.loop.parts a is.others.loop.parts.owns 0 is.others.main_told.made e))

    t_says : says_of step_limit added task t ≡ Asks asked
    t_says = says_same added s t tapes.program task (ap (λ gs. slice_index_or gs task (generator 0 [])) tapes.generators) ∙ is.says

    t_within : task < length t.generators
    t_within = let w = within in let e = ap length tapes.generators in omega (arith, w, e)

    t_resume_point : (generator_of task t).resume_point ≡ Asked
    t_resume_point = ap (λ (gs : List Generator). (slice_index_or gs task (generator 0 [])).resume_point) tapes.generators ∙ is.resume_point

    t_blocks : (other : ℕ) → blocks_of t other ≡ blocks_of s other
    t_blocks = tapes_blocks added s t tapes (Some task) None (Some task) (Some task)

    -- ---- the loop went on, and the task is still inside its step
    inside : IsLoopAfter (names_made (ids_of s)) false (Some task) None None None s.loop t.loop → RunsSound task t → IsApart (Some task) (Some task) added t
    inside a sound =
        loop_keeps added s t tapes (Some task) (Some task) (Some task) (Some task) a.parts made (loop_more s t tapes a) sound (λ other f. f)
        (over (Some task) a.parts)
        (stays_stood added s t tapes (Some task) (Some task) (Some task) (Some task) _ _ None None None a (λ other id f e r. refl))
        (leaves_none added s t tapes (Some task) (Some task) (Some task) (Some task) _ _ None None None a (λ id f. (refl, refl))) scripts half

    -- ---- the coroutine is answered, with these streams
    answered_from : (streams : Streams) → IsLoopAfter (names_made (ids_of s)) false (Some task) None None None s.loop t.loop
        → IsApart (Some task) (Some task) added (with_streams streams t) → ((id : ℕ) → stood ≡ Leaving id → ⊥) → (fresh : Bool) (input : Input)
        → ((blocks : List Value) → open_with blocks asked input ≡ blocks) → names_block asked input ≡ true
        → sends_made (ids_of (with_streams streams t)) input ≡ true → IsStepSound added task (resumed fresh task input (with_streams streams t))
    answered_from streams a apart still fresh input plain named good =
        let v = with_streams streams t in
        record {
          others = with_open added (Some task) (Some task) (resumed fresh task input v)
              (answer_keeps added task asked fresh input v t_within t_says named good apart)
              (open_kept _ _ (Some task) None s.loop t.loop (blocks_of s) (blocks_of (resumed fresh task input v)) a same
              (open_of added (Some task) (Some task) s is.others.blocks));
          resume_point = resumed_resume_point added task asked fresh input v t_within t_says t_resume_point;
          begun = resumed_begun added task asked fresh input v t_within t_says;
          exits = λ id e mine.
              still id (is.exits id (left_before s t _ _ (Some task) None None None a id refl refl e) (mine ∙ (a.groups id).parent));
        }
      where
        same : (other : ℕ) → blocks_of (resumed fresh task input (with_streams streams t)) other ≡ blocks_of s other
        same other = at (cases_eq task other)
          where
            at : (task ≡ other) ⊎ (task ≡ other → ⊥) → blocks_of (resumed fresh task input (with_streams streams t)) other ≡ blocks_of s other
            at (inl e) =
                subst (λ k. blocks_of (resumed fresh task input (with_streams streams t)) k ≡ blocks_of s k) e
                (resumed_blocks added task asked fresh input (with_streams streams t) t_within t_says ∙ plain (blocks_of t task) ∙ t_blocks task)
            at (inr d) = resumed_others added task asked fresh input (with_streams streams t) t_within t_says other d ∙ t_blocks other

    pub step_to : IsLoopAfter (names_made (ids_of s)) false (Some task) None None None s.loop t.loop → RunsSound task t
        → ((id : ℕ) → stood ≡ Leaving id → ⊥) → (fresh : Bool) (input : Input) → ((blocks : List Value) → open_with blocks asked input ≡ blocks)
        → names_block asked input ≡ true → sends_made (ids_of t) input ≡ true → IsStepSound added task (resumed fresh task input t)
    step_to a sound still fresh input plain named good = answered_from t.streams a (inside a sound) still fresh input plain named good

    pub step_replaced : (streams : Streams) → Replaces t streams → IsLoopAfter (names_made (ids_of s)) false (Some task) None None None s.loop t.loop
        → RunsSound task t → ((id : ℕ) → stood ≡ Leaving id → ⊥) → (fresh : Bool) (input : Input)
        → ((blocks : List Value) → open_with blocks asked input ≡ blocks) → names_block asked input ≡ true
        → sends_made (ids_of (with_streams streams t)) input ≡ true → IsStepSound added task (resumed fresh task input (with_streams streams t))
    step_replaced streams new a sound still fresh input plain named good =
        let apart = inside a sound in
        answered_from streams a (over_replaced added (Some task) (Some task) t streams new apart apart.blocks) still fresh input plain named good

    -- ---- the step ends, and the task asks as before
    suspended : (begun : Option ℕ) → IsLoopAfter (names_made (ids_of s)) false (Some task) None None begun s.loop t.loop → HasSoundLoop t
        → ((id : ℕ) → is_running (Some task) (group_of s.loop id).parent ≡ false → is_running begun id ≡ false)
        → IsApart None (Some task) added t
    suspended begun a sound mine =
        loop_keeps added s t tapes (Some task) None (Some task) (Some task) a.parts made (loop_more s t tapes a) sound (λ other f. f)
        (over (Some task) a.parts)
        (stays_stood added s t tapes (Some task) None (Some task) (Some task) _ _ None None begun a (λ other id f e r. refl))
        (leaves_none added s t tapes (Some task) None (Some task) (Some task) _ _ None None begun a (λ id f. (refl, mine id f))) scripts half

    pub suspended_to : IsLoopAfter (names_made (ids_of s)) false (Some task) None None None s.loop t.loop → HasSoundLoop t
        → ((id : ℕ) → stood ≡ Leaving id → ⊥) → ((generator_of task s).tape ≡ [] → ⊥) → stands_at Asked asked ≡ true → IsStateSound added t
    suspended_to a sound still begun may =
        joined added t task
        (with_open added None (Some task) t (suspended None a sound (λ id f. refl))
        (open_kept _ _ (Some task) None s.loop t.loop (blocks_of s) (blocks_of t) a t_blocks (open_of added (Some task) (Some task) s is.others.blocks)))
        (λ l. record { asked = asked; says = t_says; stands = ap (λ st. stands_at st asked) t_resume_point ∙ may })
        (λ e. begun (sym (ap (λ (gs : List Generator). (slice_index_or gs task (generator 0 [])).tape) tapes.generators) ∙ e))
        (λ l. stands_asked t task t_resume_point)
        (λ id e mine. absurd (still id (is.exits id (left_before s t _ _ (Some task) None None None a id refl refl e) (mine ∙ (a.groups id).parent))))

    -- ---- the step ends, and the task stands at its request, with these streams
    stood_from : (streams : Streams) (resume_point : ResumePoint) → MayStandAt (added.keeps t.extra).has_key t.generators resume_point
        → (begun : Option ℕ)
        → IsLoopAfter (names_made (ids_of s)) false (Some task) None None begun s.loop t.loop
        → IsApart None (Some task) added (with_streams streams t) → ((generator_of task s).tape ≡ [] → ⊥) → stands_at resume_point asked ≡ true
        → StandsRightly (stands resume_point task (with_streams streams t)) task
        → ((id : ℕ) → IsLeft t id → task ≡ (group_of t.loop id).parent → resume_point ≡ Leaving id)
        → IsStateSound added (stands resume_point task (with_streams streams t))
    stood_from streams resume_point free begun a apart begun_ may right left =
        let v = with_streams streams t in
        joined added (stands resume_point task v) task
        (with_open added None (Some task) (stands resume_point task v) (stands_keeps added task resume_point v t_within free None apart)
        (open_kept _ _ (Some task) begun s.loop t.loop (blocks_of s) (blocks_of (stands resume_point task v)) a
        (λ other. stood_blocks added task resume_point v t_within other ∙ t_blocks other) (open_of added (Some task) (Some task) s is.others.blocks)))
        (λ l. record {
          asked = asked;
          says = stood_says added task resume_point v t_within ∙ t_says;
          stands = ap (λ st. stands_at st asked) (stood_resume_point added task resume_point v t_within) ∙ may;
        })
        (λ e. begun_ (sym (stood_tape added task resume_point v t_within
        ∙ ap (λ (gs : List Generator). (slice_index_or gs task (generator 0 [])).tape) tapes.generators) ∙ e))
        (λ l. right)
        (λ id e m. stood_resume_point added task resume_point v t_within ∙ left id e m)

    pub suspended_stood : (resume_point : ResumePoint) → MayStandAt (added.keeps t.extra).has_key t.generators resume_point → (begun : Option ℕ)
        → IsLoopAfter (names_made (ids_of s)) false (Some task) None None begun s.loop t.loop → HasSoundLoop t
        → ((id : ℕ) → is_running (Some task) (group_of s.loop id).parent ≡ false → is_running begun id ≡ false)
        → ((generator_of task s).tape ≡ [] → ⊥) → stands_at resume_point asked ≡ true → StandsRightly (stands resume_point task t) task
        → ((id : ℕ) → IsLeft t id → task ≡ (group_of t.loop id).parent → resume_point ≡ Leaving id) → IsStateSound added (stands resume_point task t)
    suspended_stood resume_point free begun a sound mine begun_ may right left =
        stood_from t.streams resume_point free begun a (suspended begun a sound mine) begun_ may right left

    pub suspended_replaced : (streams : Streams) → Replaces t streams → (resume_point : ResumePoint)
        → MayStandAt (added.keeps t.extra).has_key t.generators resume_point
        → IsLoopAfter (names_made (ids_of s)) false (Some task) None None None s.loop t.loop → HasSoundLoop t
        → ((generator_of task s).tape ≡ [] → ⊥) → stands_at resume_point asked ≡ true
        → StandsRightly (stands resume_point task (with_streams streams t)) task
        → ((id : ℕ) → IsLeft t id → task ≡ (group_of t.loop id).parent → resume_point ≡ Leaving id)
        → IsStateSound added (stands resume_point task (with_streams streams t))
    suspended_replaced streams new resume_point free a sound begun_ may right left =
        let apart = suspended None a sound (λ id f. refl) in
        stood_from streams resume_point free None a (over_replaced added None (Some task) t streams new apart apart.blocks) begun_ may right left
