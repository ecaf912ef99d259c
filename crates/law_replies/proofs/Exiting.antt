-- Requests that leave blocks: the exit of a timeout, and that of a group, as it begins and as it goes on.
use Rattle.std.proofs.Common.{◌≡◌, ℕ, ◌<◌, ◌⊎◌, inl, inr, Bool, true, false, not, ◌&&◌, ◌||◌, List, [], ◌∷◌, Option, Some, None, drop, length}
use Rattle.std.proofs.Common.{refl, sym, ap, subst, ◌∙◌}
use Rattle.std.specs.List.{list_any}
use Rattle.std.proofs.lemmas.Bool.{cases_eq, eq-eqb, ne_eqb, false≢true}
use Rattle.model_value.specs.Equality.{equal}
use Rattle.model_value.specs.Input.{Input}
use Rattle.model_value.specs.declared.input.Input.TheVariants.{Send, Throw}
use Rattle.model_value.specs.declared.request.Request.TheVariants as request
use Rattle.model_value.specs.Request.{Request}
use Rattle.model_value.specs.Value.{Value, Nothing, Exc, Group, Timeout}
use Rattle.model_says.specs.Blocks.{open_with}
use Rattle.model_says.specs.Endings.{Asks}
use Rattle.model_says.specs.Says.{step_limit}
use Rattle.model_loop.specs.Groups.{GroupExit, Waits, Passes, Raises as RaisedBy, group_of}
use Rattle.model_loop.specs.Loop.{Loop, book}
use Rattle.model_loop.specs.Suspend.{suspend}
use Rattle.model_loop.specs.Tasks.{lives}
use Rattle.model_loop.specs.Timeouts.{exit_timeout, timeout_exception, timeout_of}
use Rattle.model_loop.specs.Ways.{is_running}
use Rattle.model_machine.specs.Extra.{Extra}
use Rattle.model_machine.specs.Replies.{exits_as, exits_timeout, timed_out_if, waits}
use Rattle.model_machine.specs.Sound.{AreBlocksOf, IsLeft, IsOpenedAt, IsStateSound, StandsRightly}
use Rattle.model_machine.specs.Sound.{blocks_of, is_open, ids_of, names_block, names_made, sends_made}
use Rattle.model_machine.specs.State.{ResumePoint, Asked, Sleeping, Leaving, State, generator_of, resumed, stands, with_loop}
use Rattle.model_machine.specs.Step.{says_of}
use Rattle.model_machine.specs.Told.{told_in}
use Rattle.law_sound.proofs.Steps.{tags_of_sound}
use Rattle.law_turns.specs.Replied.{RunsSound, RepliesSound}
use Rattle.law_turns.specs.After.{IsLoopAfter}
use Rattle.law_turns.proofs.Deadlines.{leave_loop, leave_closes}
use Rattle.law_turns.proofs.Exits.{ExitLeaves}
use Rattle.law_turns.proofs.Loops.{loop_on, book_loop}
use Rattle.law_turns.proofs.Requests.{suspend_after}
use Rattle.law_replies.specs.InStep.{IsStepSound, IsAsked, RepliesInStep}
use Rattle.law_replies.proofs.Answering.{half, within, left_before, suspended_stood}
use Rattle.law_replies.proofs.Blocks.{AreOpenAt, timeout_left_open, group_left_open}
use Rattle.law_replies.proofs.Counts.{and_first, and_second, and_both, not_true, not_false, lives_before}
use Rattle.law_replies.proofs.Given.{asked_leaves}
use Rattle.law_replies.proofs.Keeping.{open_of, with_open, says_same, tapes_blocks, futures_kept, loop_keeps, stays_stood, leaves_none, resumed_blocks}
use Rattle.law_replies.proofs.Keeping.{resumed_others, resumed_resume_point, resumed_begun, answer_keeps, stood_resume_point}
use Rattle.law_replies.proofs.Ids.{input_up, loop_more}
use Rattle.law_replies.proofs.Table.{same_tapes}

-- ---- one block less
module _ {S : Type 0} (added : Extra S) (task : ℕ) (stood : ResumePoint) (asked : Request) (s : State S) (is : IsAsked added task stood asked s)
    (fresh : Bool) (input : Input) (l : Loop) (block : Value) (outer : List Value) (mine : blocks_of s task ≡ block ∷ outer)
    (drops : (blocks : List Value) → open_with blocks asked input ≡ drop 1 blocks) where
  abbrev t : State S
  t = record s { loop = l }

  abbrev u : State S
  u = resumed fresh task input (record s { loop = l })

  pub t_says : says_of step_limit added task t ≡ Asks asked
  t_says = says_same added s t refl task refl ∙ is.says

  t_blocks : (other : ℕ) → blocks_of t other ≡ blocks_of s other
  t_blocks = tapes_blocks added s t (same_tapes s l) (Some task) None (Some task) (Some task)

  u_blocks : blocks_of u task ≡ outer
  u_blocks =
      resumed_blocks added task asked fresh input t (within added task stood asked s is) t_says
      ∙ drops (blocks_of t task) ∙ ap (drop 1) (t_blocks task ∙ mine)

  pub u_less : blocks_of s task ≡ block ∷ blocks_of u task
  u_less = mine ∙ ap (λ b. block ∷ b) (sym u_blocks)

  pub u_others : (other : ℕ) → (task ≡ other → ⊥) → blocks_of u other ≡ blocks_of s other
  u_others other n = resumed_others added task asked fresh input t (within added task stood asked s is) t_says other n ∙ t_blocks other

  -- an answer that leaves this block
  pub left_to : (timeout group begun : Option ℕ) (a : IsLoopAfter (names_made (ids_of s)) false (Some task) timeout group begun s.loop l)
      → RunsSound task t
      → ((other id : ℕ) → is_running (Some task) other ≡ false → (generator_of other s).resume_point ≡ Leaving id → StandsRightly s other
      → is_running group id ≡ false)
      → ((id : ℕ) → is_running (Some task) (group_of s.loop id).parent ≡ false → (is_running group id ≡ false) × (is_running begun id ≡ false))
      → ((id : ℕ) → IsLeft t id → task ≡ (group_of l id).parent → ⊥) → AreOpenAt l (blocks_of u) → names_block asked input ≡ true
      → sends_made (ids_of s) input ≡ true → IsStepSound added task u
  left_to timeout group begun a sound free free' exits opened named good = record {
    others = with_open added (Some task) (Some task) u
        (answer_keeps added task asked fresh input t (within added task stood asked s is) t_says named
        (input_up (ids_of s) (ids_of t) (loop_more s t (same_tapes s l) a) input good)
        (loop_keeps added s t (same_tapes s l) (Some task) (Some task) (Some task) (Some task) a.parts (a.parts.same refl)
        (loop_more s t (same_tapes s l) a) sound (λ other f. f)
        over (stays_stood added s t (same_tapes s l) (Some task) (Some task) (Some task) (Some task) _ _ timeout group begun a free)
        (leaves_none added s t (same_tapes s l) (Some task) (Some task) (Some task) (Some task) _ _ timeout group begun a free')
        (futures_kept s t refl refl (λ id h. a.parts.plain id h) is.others.futures) (half added task stood asked s is))) opened;
    resume_point = resumed_resume_point added task asked fresh input t (within added task stood asked s is) t_says is.resume_point;
    begun = resumed_begun added task asked fresh input t (within added task stood asked s is) t_says;
    exits = exits;
  }
    where
      over : s.main_done ≡ true → lives l.parts 0 ≡ false
      over done = at (lives l.parts 0) refl
        where
          at : (b : Bool) → lives l.parts 0 ≡ b → lives l.parts 0 ≡ false
          at false e = e
          at true e =
              absurd (false≢true (sym (is.others.main_over done)
              ∙ lives_before _ _ (Some task) s.loop.parts l.parts a.parts is.others.loop.parts.owns 0 is.others.main_told.made e))

-- ---- a timeout
module _ {S : Type 0} (added : Extra S) (task : ℕ) (s : State S) (raised : Option Exc) (id : ℕ)
    (is : IsAsked added task Asked (request.TimeoutExit (Timeout id) raised) s) (outer : List Value)
    (mine : blocks_of s task ≡ Timeout id ∷ outer) where
  block_is : AreBlocksOf s.loop task (Timeout id ∷ outer)
  block_is = subst (AreBlocksOf s.loop task) mine (is.others.blocks.own task)

  -- it was made, and is open
  pub timeout_there : id < length s.loop.timeouts
  timeout_there = block_is.0.0

  pub timeout_open : is_open (timeout_of s.loop id).state ≡ true
  timeout_open =
      is.others.blocks.timeouts id timeout_there ∙ ap (λ k. list_any (equal (Timeout id)) (blocks_of s k)) block_is.0.1
      ∙ ap (list_any (equal (Timeout id))) mine ∙ ap (λ b. b || list_any (equal (Timeout id)) outer) (eq-eqb id id refl)

  left_by : (input : Input) → sends_made (ids_of s) input ≡ true → RunsSound task (with_loop (exit_timeout raised id s.loop).loop s)
      → IsStepSound added task (resumed false task input (with_loop (exit_timeout raised id s.loop).loop s))
  left_by input good h =
      let tags = tags_of_sound (Some task) (told_in s.events) s.loop is.others.loop in
      let m = (exit_timeout raised id s.loop).loop in
      let a = leave_loop (names_made (ids_of s)) refl false (Some task) None None raised id s.loop tags in
      left_to added task Asked (request.TimeoutExit (Timeout id) raised) s is false input m (Timeout id) outer mine (λ b. refl) (Some id) None None a h
      (λ other gid f e r. refl) (λ gid f. (refl, refl))
      (λ gid e m'. asked_leaves gid
      (is.exits gid (left_before s (with_loop m s) _ _ (Some task) (Some id) None None a gid refl refl e) (m' ∙ (a.groups gid).parent)))
      (timeout_left_open s.loop task (blocks_of s) (blocks_of (resumed false task input (with_loop m s)))
      (u_others added task Asked (request.TimeoutExit (Timeout id) raised) s is false input m (Timeout id) outer mine (λ b. refl))
      (open_of added (Some task) (Some task) s is.others.blocks) _ _ (Some task) None m id a
      (leave_closes (names_made (ids_of s)) refl false (Some task) None None raised id s.loop tags timeout_there)
      (u_less added task Asked (request.TimeoutExit (Timeout id) raised) s is false input m (Timeout id) outer mine (λ b. refl)))
      refl good

  pub exits_timeout_in : RepliesSound task (exits_timeout raised id s) → RepliesInStep added false task (exits_timeout raised id s)
  exits_timeout_in h = at (exit_timeout raised id s.loop).timed_out h
    where
      at : (b : Bool) → RepliesSound task (timed_out_if b (with_loop (exit_timeout raised id s.loop).loop s))
          → RepliesInStep added false task (timed_out_if b (with_loop (exit_timeout raised id s.loop).loop s))
      at true h = left_by (Throw timeout_exception) refl h
      at false h = left_by (Send Nothing) refl h

-- ---- a group, whose exit begins or goes on
pub leaving_is : (a b : ℕ) → Leaving a ≡ Leaving b → a ≡ b
leaving_is a b e = ap (λ st. group_in st) e
  where
    group_in : ResumePoint → ℕ
    group_in (Leaving id) = id
    group_in _ = a

leaves_sleeps : (a b : ℕ) → Leaving a ≡ Sleeping b → ⊥
leaves_sleeps a b e = absurd (cc)

module _ {S : Type 0} (added : Extra S) (task : ℕ) (stood : ResumePoint) (s : State S) (raised : Option Exc) (id : ℕ)
    (is : IsAsked added task stood (request.GroupExit (Group id) raised) s) (outer : List Value)
    (mine : blocks_of s task ≡ Group id ∷ outer) where
  its_block : AreBlocksOf s.loop task (Group id ∷ outer)
  its_block = subst (AreBlocksOf s.loop task) mine (is.others.blocks.own task)

  -- it was made, is the task's, was entered, and hasn't ended
  pub group_there : id < length s.loop.groups
  group_there = its_block.0.0

  pub group_its : (group_of s.loop id).parent ≡ task
  group_its = its_block.0.1

  pub group_open : ((group_of s.loop id).entered && not (group_of s.loop id).ended) ≡ true
  group_open =
      is.others.blocks.groups id group_there ∙ ap (λ k. list_any (equal (Group id)) (blocks_of s k)) group_its
      ∙ ap (list_any (equal (Group id))) mine ∙ ap (λ b. b || list_any (equal (Group id)) outer) (eq-eqb id id refl)

  pub group_entered : (group_of s.loop id).entered ≡ true
  group_entered = and_first (group_of s.loop id).entered (not (group_of s.loop id).ended) group_open

  pub group_unended : (group_of s.loop id).ended ≡ false
  group_unended = not_true (group_of s.loop id).ended (and_second (group_of s.loop id).entered (not (group_of s.loop id).ended) group_open)

  -- of this task, it alone is left
  its_own : (gid : ℕ) → is_running (Some task) (group_of s.loop gid).parent ≡ false → is_running (Some id) gid ≡ false
  its_own gid f = ne_eqb id gid
      (λ e. false≢true (sym f ∙ eq-eqb task (group_of s.loop gid).parent (sym (ap (λ k. (group_of s.loop k).parent) (sym e) ∙ group_its))))

  others_stood : (other gid : ℕ) → is_running (Some task) other ≡ false → (generator_of other s).resume_point ≡ Leaving gid → StandsRightly s other
      → is_running (Some id) gid ≡ false
  others_stood other gid f e right =
      ne_eqb id gid (λ same. false≢true (sym f ∙ eq-eqb task other (sym group_its ∙ ap (λ k. (group_of s.loop k).parent) same ∙ right.leaving gid e)))

  module _ (begun : Option ℕ) (may : (gid : ℕ) → is_running begun gid ≡ true → gid ≡ id) (m : Loop)
      (a : IsLoopAfter (names_made (ids_of s)) false (Some task) None (Some id) begun s.loop m)
      (marks : (group_of m id).exiting ≡ true) (was : (gid : ℕ) → stood ≡ Leaving gid → gid ≡ id) where
    other_begun : (gid : ℕ) → (id ≡ gid → ⊥) → is_running begun gid ≡ false
    other_begun gid n = at (is_running begun gid) refl
      where
        at : (b : Bool) → is_running begun gid ≡ b → is_running begun gid ≡ false
        at false e = e
        at true e = absurd (n (sym (may gid e)))

    not_begun : (gid : ℕ) → is_running (Some task) (group_of s.loop gid).parent ≡ false → is_running begun gid ≡ false
    not_begun gid f = other_begun gid (λ e. false≢true (sym (its_own gid f) ∙ eq-eqb id gid e))

    ended_by : (fresh : Bool) (input : Input) → sends_made (ids_of s) input ≡ true → (group_of m id).ended ≡ true
        → RunsSound task (with_loop m s) → IsStepSound added task (resumed fresh task input (with_loop m s))
    ended_by fresh input good ended h =
        left_to added task stood (request.GroupExit (Group id) raised) s is fresh input m (Group id) outer mine (λ b. refl) None (Some id) begun a h
        (λ other gid f e r. others_stood other gid f e r) (λ gid f. (its_own gid f, not_begun gid f)) (λ gid e mine'. none gid e mine' (cases_eq id gid))
        (group_left_open s.loop task (blocks_of s) (blocks_of (resumed fresh task input (with_loop m s)))
        (u_others added task stood (request.GroupExit (Group id) raised) s is fresh input m (Group id) outer mine (λ b. refl))
        (open_of added (Some task) (Some task) s is.others.blocks) _ _ (Some task) begun m id a ended
        (u_less added task stood (request.GroupExit (Group id) raised) s is fresh input m (Group id) outer mine (λ b. refl)))
        refl good
      where
        none : (gid : ℕ) → IsLeft (with_loop m s) gid → task ≡ (group_of m gid).parent → (id ≡ gid) ⊎ (id ≡ gid → ⊥) → ⊥
        none gid e mine' (inl same) =
            false≢true (sym (ap not (subst (λ k. (group_of m k).ended ≡ true) same ended))
            ∙ and_second (group_of m gid).exiting (not (group_of m gid).ended) e)
        none gid e mine' (inr n) =
            n (sym (was gid (is.exits gid (left_before s (with_loop m s) _ _ (Some task) None (Some id) begun a gid (ne_eqb id gid n) (other_begun gid n) e)
            (mine' ∙ (a.groups gid).parent))))

    waited : (fresh : Bool) (on : ℕ) → ((generator_of task s).tape ≡ [] → ⊥)
        → IsLoopAfter (names_made (ids_of s)) false (Some task) None None begun s.loop m
        → RepliesSound task (exits_as (Waits on) task id (with_loop m s)) → IsStateSound added (stands (Leaving id) task (waits task on (with_loop m s)))
    waited fresh on tape b h =
        suspended_stood added task stood (request.GroupExit (Group id) raised) s is (waits task on (with_loop m s)) (same_tapes s (book (suspend task on) m))
        (futures_kept s (waits task on (with_loop m s)) refl refl (λ k x. c.parts.plain k x) is.others.futures) refl (c.parts.same refl)
        (Leaving id) tt begun c h not_begun tape (eq-eqb id id refl) right (λ gid e mine'. left gid e mine' (cases_eq id gid))
      where
        c : IsLoopAfter (names_made (ids_of s)) false (Some task) None None begun s.loop (book (suspend task on) m)
        c =
            loop_on (names_made (ids_of s)) refl false (Some task) None None begun s.loop m (book (suspend task on) m)
            (book_loop (names_made (ids_of s)) refl false (Some task) None None begun (suspend task on) m
            (suspend_after (names_made (ids_of s)) false (Some task) task on m.parts)) b

        stood_now : (generator_of task (stands (Leaving id) task (waits task on (with_loop m s)))).resume_point ≡ Leaving id
        stood_now = stood_resume_point added task (Leaving id) (waits task on (with_loop m s))
            (within added task stood (request.GroupExit (Group id) raised) s is)

        right : StandsRightly (stands (Leaving id) task (waits task on (with_loop m s))) task
        right = record {
          sleeping = λ tag e. absurd (leaves_sleeps id tag (sym stood_now ∙ e));
          leaving = λ gid e.
              subst (λ k. (group_of m k).parent ≡ task) (leaving_is id gid (sym stood_now ∙ e)) ((a.groups id).parent ∙ group_its);
          leaving_now = λ gid e.
              subst (λ k. ((group_of m k).exiting && not (group_of m k).ended) ≡ true) (leaving_is id gid (sym stood_now ∙ e))
              (and_both (group_of m id).exiting (not (group_of m id).ended) marks (not_false (group_of m id).ended ((b.groups id).ended refl ∙ group_unended)));
          opened = subst (IsOpenedAt s.streams) (sym stood_now) tt;
        }

        left : (gid : ℕ) → IsLeft (waits task on (with_loop m s)) gid → task ≡ (group_of m gid).parent → (id ≡ gid) ⊎ (id ≡ gid → ⊥)
            → Leaving id ≡ Leaving gid
        left gid e mine' (inl same) = ap Leaving same
        left gid e mine' (inr n) =
            absurd (n (sym (was gid (is.exits gid
            (left_before s (with_loop m s) _ _ (Some task) None None begun b gid refl (other_begun gid n) e) (mine' ∙ (b.groups gid).parent)))))

    pub exits_in : (fresh : Bool) (answer : GroupExit) → ((generator_of task s).tape ≡ [] → ⊥)
        → ExitLeaves (names_made (ids_of s)) refl false (Some task) None begun id s.loop answer m
        → RepliesSound task (exits_as answer task id (with_loop m s)) → RepliesInStep added fresh task (exits_as answer task id (with_loop m s))
    exits_in fresh (Waits on) tape leaves h = waited fresh on tape leaves h
    exits_in fresh Passes tape leaves h = ended_by fresh (Send Nothing) refl leaves h
    exits_in fresh (RaisedBy fault) tape leaves h = ended_by fresh (Throw fault) refl leaves h
