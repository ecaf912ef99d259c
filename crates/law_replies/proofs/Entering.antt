-- Requests that make tasks, and those that enter blocks.
use Rattle.std.proofs.Common.{◌≡◌, ℕ, ◌+◌, ◌<◌, ◌≤◌, ◌⊎◌, inl, inr, ℤ, Bool, true, false, not, ◌&&◌, List, ◌∷◌, Option, Some, None, length}
use Rattle.std.proofs.Common.{length-append, option_map, le_refl, refl, sym, ap, subst, ◌∙◌, arith}
use Rattle.std.specs.List.{list_all}
use Rattle.std.proofs.lemmas.Bool.{cases_eq, cases_lt, lt-ltb, false≢true}
use Rattle.model_value.specs.Input.{Input}
use Rattle.model_value.specs.declared.action.Action.TheVariants.{GroupDone}
use Rattle.model_value.specs.declared.input.Input.TheVariants.{Send}
use Rattle.model_value.specs.declared.request.Request.TheVariants as request
use Rattle.model_value.specs.Request.{Request}
use Rattle.model_value.specs.Value.{Value, Task, Group, Timeout}
use Rattle.model_says.specs.Blocks.{open_with}
use Rattle.model_says.specs.Endings.{Asks}
use Rattle.model_says.specs.Says.{step_limit}
use Rattle.model_loop.proofs.GroupCases.{create_unless}
use Rattle.model_loop.specs.Groups.{Refusal, create, group_of, new_group, refusal, with_child}
use Rattle.model_loop.specs.Futures.{next_future}
use Rattle.model_loop.specs.Handles.{deadline}
use Rattle.model_loop.specs.Loop.{Group as GroupFields, Loop, in_parts}
use Rattle.model_loop.specs.Tasks.{lives, next_task, spawn}
use Rattle.model_loop.specs.Timeouts.{enter_timeout, make_timeout, next_timeout}
use Rattle.model_loop.specs.Totals.{pending_where}
use Rattle.model_machine.specs.Extra.{Extra}
use Rattle.model_machine.specs.Replies.{creates_unless, spawns}
use Rattle.model_machine.specs.Sound.{IsLeft, IsUnbegun, blocks_of, ids_of, names_block, names_made}
use Rattle.model_machine.specs.State.{Asked, Generator, State, generator_of, in_loop, resumed, with_coroutine}
use Rattle.model_machine.specs.Step.{says_of}
use Rattle.model_machine.specs.Told.{told_in}
use Rattle.law_sound.proofs.Steps.{tags_of_sound}
use Rattle.law_groups.proofs.Firing.{make_timeout_tags}
use Rattle.law_turns.specs.Replied.{RunsSound, RepliesSound}
use Rattle.law_turns.specs.After.{is_step, IsAfter, IsLoopAfter}
use Rattle.law_turns.proofs.Parts.{refl_after}
use Rattle.law_turns.proofs.Made.{register_after, spawn_after}
use Rattle.law_turns.proofs.Loops.{parts_loop, create_loop}
use Rattle.law_turns.proofs.Deadlines.{schedule_loop}
use Rattle.law_replies.specs.InStep.{IsStepSound, IsAsked, RepliesInStep}
use Rattle.law_replies.proofs.Handling.{spawned_step}
use Rattle.law_replies.proofs.Answering.{half, alive, within, left_before}
use Rattle.law_replies.proofs.Blocks.{open_kept, timeout_made_open, group_entered_open, entered_new, entered_is, entered_old, groups_longer}
use Rattle.law_replies.proofs.Counts.{and_first, count_unbegun, lives_before, lives_within}
use Rattle.law_replies.proofs.Given.{asked_leaves, spawn_keeps, spawned_blocks, old_same}
use Rattle.law_replies.proofs.Ids.{IsMore, ids_more, task_made}
use Rattle.law_replies.proofs.Keeping.{IsApart, open_of, with_open, says_same, tapes_blocks, futures_kept, loop_keeps, resume_point_kept, resumed_blocks}
use Rattle.law_replies.proofs.Keeping.{resumed_others, resumed_resume_point, resumed_begun, answer_keeps}
use Rattle.law_replies.proofs.Table.{same_tapes}
use Rattle.law_replies.proofs.Tapes.{past_default}

module _ {S : Type 0} (added : Extra S) (task : ℕ) (s : State S) (asked : Request) (is : IsAsked added task Asked asked s) where
  -- ---- main is over as before
  over_in : (grown : Bool) (l : Loop) → IsAfter (names_made (ids_of s)) grown (Some task) s.loop.parts l.parts
      → s.main_done ≡ true → lives l.parts 0 ≡ false
  over_in grown l a done = at (lives l.parts 0) refl
    where
      at : (b : Bool) → lives l.parts 0 ≡ b → lives l.parts 0 ≡ false
      at false e = e
      at true e =
          absurd (false≢true (sym (is.others.main_over done)
          ∙ lives_before _ _ (Some task) s.loop.parts l.parts a is.others.loop.parts.owns 0 is.others.main_told.made e))

  -- ---- a task is made, and its coroutine added
  module _ (plain : (blocks : List Value) (input : Input) → open_with blocks asked input ≡ blocks)
      (named : (input : Input) → names_block asked input ≡ true) (coroutine : ℕ) (arguments : List Value)
      (given_ : list_all (names_made (ids_of s)) arguments ≡ true) (l : Loop)
      (a : IsLoopAfter (names_made (ids_of s)) true (Some task) None None None s.loop l)
      (more : next_task l.parts ≡ next_task s.loop.parts + 1) (first : IsUnbegun l.parts (next_task s.loop.parts))
      (sound : RunsSound task (record s { loop = l })) where
    abbrev with_it : State S
    with_it = with_coroutine coroutine arguments (record s { loop = l })

    abbrev told : State S
    told = resumed false task (Send (Task (next_task s.loop.parts))) (with_coroutine coroutine arguments (record s { loop = l }))

    made_half : IsApart (Some task) (Some task) added with_it
    made_half =
        spawn_keeps added (Some task) coroutine arguments s (record s { loop = l }) (same_tapes s l) a more (half added task Asked asked s is) sound first
        (over_in true l a.parts) given_ (futures_kept s (record s { loop = l }) refl refl (λ id h. a.parts.plain id h) is.others.futures)

    its_same : generator_of task with_it ≡ generator_of task s
    its_same =
        old_same added (Some task) coroutine arguments s (record s { loop = l }) (same_tapes s l) a more (half added task Asked asked s is) task
        (lives_within s.loop.parts task (alive added task Asked asked s is))

    its_within : task < length with_it.generators
    its_within =
        let w = within added task Asked asked s is in
        let e : length with_it.generators ≡ length s.generators + 1 = length-append s.generators _ in omega (arith, w, e)

    its_says : says_of step_limit added task with_it ≡ Asks asked
    its_says = says_same added s with_it refl task its_same ∙ is.says

    its_blocks : (other : ℕ) → (task ≡ other) ⊎ (task ≡ other → ⊥) → blocks_of told other ≡ blocks_of s other
    its_blocks other (inl e) =
        subst (λ k. blocks_of told k ≡ blocks_of s k) e
        (resumed_blocks added task asked false (Send (Task (next_task s.loop.parts))) with_it its_within its_says
        ∙ plain (blocks_of with_it task) (Send (Task (next_task s.loop.parts)))
        ∙ spawned_blocks added (Some task) coroutine arguments s (record s { loop = l }) (same_tapes s l) a more (half added task Asked asked s is) task)
    its_blocks other (inr n) =
        resumed_others added task asked false (Send (Task (next_task s.loop.parts))) with_it its_within its_says other n
        ∙ spawned_blocks added (Some task) coroutine arguments s (record s { loop = l }) (same_tapes s l) a more (half added task Asked asked s is) other

    pub made_in : IsStepSound added task (resumed false task (Send (Task (next_task s.loop.parts))) with_it)
    made_in = record {
      others = with_open added (Some task) (Some task) told
          (answer_keeps added task asked false (Send (Task (next_task s.loop.parts))) with_it its_within its_says
          (named (Send (Task (next_task s.loop.parts)))) (task_made (ids_of (record s { loop = l })) (next_task s.loop.parts) (omega (arith, more))) made_half)
          (open_kept _ _ (Some task) None s.loop l (blocks_of s) (blocks_of told) a (λ other. its_blocks other (cases_eq task other))
          (open_of added (Some task) (Some task) s is.others.blocks));
      resume_point = resumed_resume_point added task asked false (Send (Task (next_task s.loop.parts))) with_it its_within its_says
          (ap (λ (g : Generator). g.resume_point) its_same ∙ is.resume_point);
      begun = resumed_begun added task asked false (Send (Task (next_task s.loop.parts))) with_it its_within its_says;
      exits = λ id e mine. asked_leaves id (is.exits id
          (left_before s (record s { loop = l }) _ _ (Some task) None None None a id refl refl e) (mine ∙ (a.groups id).parent));
    }

  -- ---- `spawn` and `create`
  module _ (plain : (blocks : List Value) (input : Input) → open_with blocks asked input ≡ blocks)
      (named : (input : Input) → names_block asked input ≡ true) (coroutine : ℕ) (arguments : List Value)
      (given_ : list_all (names_made (ids_of s)) arguments ≡ true) where
    pub spawns_in : RepliesSound task (spawns coroutine arguments s) → RepliesInStep added false task (spawns coroutine arguments s)
    spawns_in h =
        made_in plain named coroutine arguments given_ (in_parts spawn s.loop)
        (parts_loop (names_made (ids_of s)) refl true (Some task) None None None s.loop (spawn s.loop.parts)
        (spawn_after (names_made (ids_of s)) (Some task) s.loop.parts))
        (length-append s.loop.parts.tasks _) (count_unbegun (spawn s.loop.parts) (next_task s.loop.parts) (spawned_step s.loop.parts)) h

    child_after : (id : ℕ) → IsAfter (names_made (ids_of s)) false None (spawn s.loop.parts) (with_child id s.loop.parts)
    child_after id =
        register_after (names_made (ids_of s)) false None (next_future s.loop.parts) (GroupDone id (next_task s.loop.parts))
        (spawn s.loop.parts) refl

    child_step : (id : ℕ) → 0 < pending_where (is_step (next_task s.loop.parts)) (with_child id s.loop.parts).pending
    child_step id =
        let a = (child_after id).steps (next_task s.loop.parts) refl in
        let b = spawned_step s.loop.parts in
        omega (arith, a, b)

    child_count : (id : ℕ) → next_task (with_child id s.loop.parts) ≡ next_task s.loop.parts + 1
    child_count id = (child_after id).same refl ∙ length-append s.loop.parts.tasks _

    pub creates_in : (id : ℕ) → refusal (group_of s.loop id) ≡ None → RepliesSound task (creates_unless None id coroutine arguments s)
        → RepliesInStep added false task (creates_unless None id coroutine arguments s)
    creates_in id e h =
        made_in plain named coroutine arguments given_ (create id s.loop)
        (create_loop (names_made (ids_of s)) refl (Some task) None None None id s.loop) (created (refusal (group_of s.loop id)) refl e) begun h
      where
        created : (o : Option Refusal) → refusal (group_of s.loop id) ≡ o → o ≡ None → next_task (create id s.loop).parts ≡ next_task s.loop.parts + 1
        created o e none = ap (λ r. next_task (create_unless r id s.loop).parts) (e ∙ none) ∙ child_count id

        begun : IsUnbegun (create id s.loop).parts (next_task s.loop.parts)
        begun =
            subst (λ r. IsUnbegun (create_unless r id s.loop).parts (next_task s.loop.parts)) (sym e)
            (count_unbegun (with_child id s.loop.parts) (next_task s.loop.parts) (child_step id))

  -- ---- a timeout is entered
  module _ (delay : Value) (is_asked : asked ≡ request.TimeoutEnter delay) (when : Option ℤ) (h : RunsSound task (in_loop (enter_timeout task when) s)) where
    abbrev into : State S
    into = in_loop (enter_timeout task when) s

    abbrev sent : State S
    sent = resumed false task (Send (Timeout (length s.loop.timeouts))) (in_loop (enter_timeout task when) s)

    scheduled : IsLoopAfter (names_made (ids_of s)) false (Some task) None None None (make_timeout task s.loop) into.loop
    scheduled =
        schedule_loop (names_made (ids_of s)) refl false (Some task) None None None (next_timeout s.loop)
        (option_map (deadline s.loop.parts.time) when) (make_timeout task s.loop)
        (make_timeout_tags task s.loop (tags_of_sound (Some task) (told_in s.events) s.loop is.others.loop))

    into_says : says_of step_limit added task into ≡ Asks asked
    into_says = says_same added s into refl task refl ∙ is.says

    into_blocks : (other : ℕ) → blocks_of into other ≡ blocks_of s other
    into_blocks = tapes_blocks added s into (same_tapes s into.loop) (Some task) None (Some task) (Some task)

    sent_blocks : blocks_of sent task ≡ Timeout (length s.loop.timeouts) ∷ blocks_of s task
    sent_blocks =
        resumed_blocks added task asked false (Send (Timeout (length s.loop.timeouts))) into (within added task Asked asked s is) into_says
        ∙ ap (λ q. open_with (blocks_of into task) q (Send (Timeout (length s.loop.timeouts)))) is_asked
        ∙ ap (λ b. Timeout (length s.loop.timeouts) ∷ b) (into_blocks task)

    sent_others : (other : ℕ) → (task ≡ other → ⊥) → blocks_of sent other ≡ blocks_of s other
    sent_others other n =
        resumed_others added task asked false (Send (Timeout (length s.loop.timeouts))) into (within added task Asked asked s is) into_says other n
        ∙ into_blocks other

    into_count : length into.loop.timeouts ≡ length s.loop.timeouts + 1
    into_count = scheduled.timeouts_made ∙ length-append s.loop.timeouts _

    into_more : IsMore (ids_of s) (ids_of into)
    into_more =
        let groups = scheduled.groups_made in
        let count = into_count in
        ids_more s into (same_tapes s into.loop) scheduled.parts.tasks (omega (arith, count)) (omega (arith, groups))

    into_half : IsApart (Some task) (Some task) added into
    into_half =
        loop_keeps added s into (same_tapes s into.loop) (Some task) (Some task) (Some task) (Some task) scheduled.parts (scheduled.parts.same refl) into_more h
        (λ other f. f) (over_in false into.loop scheduled.parts)
        (λ other f l right. resume_point_kept added (record s { loop = make_timeout task s.loop }) into refl other refl _ _ (Some task) None None None scheduled
        refl (λ id e. refl)
        (record { sleeping = right.sleeping; leaving = right.leaving; leaving_now = right.leaving_now; opened = right.opened }))
        (λ id e f.
        (left_before (record s { loop = make_timeout task s.loop }) into _ _ (Some task) None None None scheduled id refl refl e, (scheduled.groups id).parent))
        (futures_kept s into refl refl (λ id k. scheduled.parts.plain id k) is.others.futures) (half added task Asked asked s is)

    pub enters_timeout_in : IsStepSound added task sent
    enters_timeout_in = record {
      others = with_open added (Some task) (Some task) sent
          (answer_keeps added task asked false (Send (Timeout (length s.loop.timeouts))) into (within added task Asked asked s is) into_says
          (ap (λ q. names_block q (Send (Timeout (length s.loop.timeouts)))) is_asked)
          (let count = into_count in lt-ltb (length s.loop.timeouts) (length into.loop.timeouts) (omega (arith, count))) into_half)
          (open_kept _ _ (Some task) None (make_timeout task s.loop) into.loop (blocks_of sent) (blocks_of sent) scheduled (λ other. refl)
          (timeout_made_open s.loop task (blocks_of s) (blocks_of sent) sent_others (open_of added (Some task) (Some task) s is.others.blocks) sent_blocks));
      resume_point = resumed_resume_point added task asked false (Send (Timeout (length s.loop.timeouts))) into
          (within added task Asked asked s is) into_says is.resume_point;
      begun = resumed_begun added task asked false (Send (Timeout (length s.loop.timeouts))) into (within added task Asked asked s is) into_says;
      exits = λ id e mine. asked_leaves id (is.exits id
          (left_before (record s { loop = make_timeout task s.loop }) into _ _ (Some task) None None None scheduled id refl refl e)
          (mine ∙ (scheduled.groups id).parent));
    }

  -- ---- a group is entered
  module _ (is_asked : asked ≡ request.GroupEnter) (h : RunsSound task (record s { loop = entered_new task s.loop })) where
    abbrev inside : State S
    inside = record s { loop = entered_new task s.loop }

    abbrev handed : State S
    handed = resumed false task (Send (Group (length s.loop.groups))) (record s { loop = entered_new task s.loop })

    inside_says : says_of step_limit added task inside ≡ Asks asked
    inside_says = says_same added s inside refl task refl ∙ is.says

    inside_blocks : (other : ℕ) → blocks_of inside other ≡ blocks_of s other
    inside_blocks = tapes_blocks added s inside (same_tapes s inside.loop) (Some task) None (Some task) (Some task)

    handed_blocks : blocks_of handed task ≡ Group (length s.loop.groups) ∷ blocks_of s task
    handed_blocks =
        resumed_blocks added task asked false (Send (Group (length s.loop.groups))) inside (within added task Asked asked s is) inside_says
        ∙ ap (λ q. open_with (blocks_of inside task) q (Send (Group (length s.loop.groups)))) is_asked
        ∙ ap (λ b. Group (length s.loop.groups) ∷ b) (inside_blocks task)

    handed_others : (other : ℕ) → (task ≡ other → ⊥) → blocks_of handed other ≡ blocks_of s other
    handed_others other n =
        resumed_others added task asked false (Send (Group (length s.loop.groups))) inside (within added task Asked asked s is) inside_says other n
        ∙ inside_blocks other

    -- a group that is being left is an old one
    old_left : (id : ℕ) → IsLeft inside id → group_of inside.loop id ≡ group_of s.loop id
    old_left id e = at (cases_lt id (length s.loop.groups))
      where
        none : (g : GroupFields) → group_of inside.loop id ≡ g → g.exiting ≡ false → ⊥
        none g same off =
            false≢true (sym (ap (λ (x : GroupFields). x.exiting) same ∙ off)
            ∙ and_first (group_of inside.loop id).exiting (not (group_of inside.loop id).ended) e)

        at : (id < length s.loop.groups) ⊎ (length s.loop.groups ≤ id) → group_of inside.loop id ≡ group_of s.loop id
        at (inl l) = entered_old task s.loop id l
        at (inr past) = go (cases_eq (length s.loop.groups) id)
          where
            go : (length s.loop.groups ≡ id) ⊎ (length s.loop.groups ≡ id → ⊥) → group_of inside.loop id ≡ group_of s.loop id
            go (inl same) =
                absurd (none (record (new_group task) { entered = true }) (ap (group_of inside.loop) (sym same) ∙ entered_is task s.loop) refl)
            go (inr n) = absurd (none (new_group 0) (past_default inside.loop.groups id (new_group 0) (longer n past)) refl)
              where
                longer : (length s.loop.groups ≡ id → ⊥) → length s.loop.groups ≤ id → length inside.loop.groups ≤ id
                longer n past = let e = groups_longer task s.loop in omega (arith, e, n, past)

    was_left : (id : ℕ) → IsLeft inside id → IsLeft s id
    was_left id e = subst (λ (g : GroupFields). (g.exiting && not g.ended) ≡ true) (old_left id e) e

    -- one at whose exit a task stands is an old one too
    stood_old : (id : ℕ) → IsLeft s id → id < length s.loop.groups
    stood_old id e = at (cases_lt id (length s.loop.groups))
      where
        at : (id < length s.loop.groups) ⊎ (length s.loop.groups ≤ id) → id < length s.loop.groups
        at (inl l) = l
        at (inr past) =
            absurd (false≢true (sym (ap (λ (x : GroupFields). x.exiting) (past_default s.loop.groups id (new_group 0) past))
            ∙ and_first (group_of s.loop id).exiting (not (group_of s.loop id).ended) e))

    inside_more : IsMore (ids_of s) (ids_of inside)
    inside_more =
        let count = groups_longer task s.loop in
        ids_more s inside (same_tapes s inside.loop) (le_refl _) (le_refl _) (omega (arith, count))

    inside_half : IsApart (Some task) (Some task) added inside
    inside_half =
        loop_keeps added s inside (same_tapes s inside.loop) (Some task) (Some task) (Some task) (Some task)
        (refl_after (names_made (ids_of s)) false (Some task) s.loop.parts) refl inside_more h
        (λ other f. f) (over_in false inside.loop (refl_after (names_made (ids_of s)) false (Some task) s.loop.parts))
        (λ other f l right. record {
          sleeping = right.sleeping;
          leaving = λ id e. ap (λ (g : GroupFields). g.parent) (entered_old task s.loop id (stood_old id (right.leaving_now id e))) ∙ right.leaving id e;
          leaving_now = λ id e.
              subst (λ (g : GroupFields). (g.exiting && not g.ended) ≡ true) (sym (entered_old task s.loop id (stood_old id (right.leaving_now id e))))
              (right.leaving_now id e);
          opened = right.opened;
        })
        (λ id e f. (was_left id e, ap (λ (g : GroupFields). g.parent) (old_left id e)))
        (record { plain = is.others.futures.plain; once = is.others.futures.once; apart = is.others.futures.apart }) (half added task Asked asked s is)

    pub enters_group_in : IsStepSound added task handed
    enters_group_in = record {
      others = with_open added (Some task) (Some task) handed
          (answer_keeps added task asked false (Send (Group (length s.loop.groups))) inside (within added task Asked asked s is) inside_says
          (ap (λ q. names_block q (Send (Group (length s.loop.groups)))) is_asked)
          (let count = groups_longer task s.loop in lt-ltb (length s.loop.groups) (length inside.loop.groups) (omega (arith, count))) inside_half)
          (group_entered_open s.loop task (blocks_of s) (blocks_of handed) handed_others
          (open_of added (Some task) (Some task) s is.others.blocks) handed_blocks);
      resume_point = resumed_resume_point added task asked false (Send (Group (length s.loop.groups))) inside
          (within added task Asked asked s is) inside_says is.resume_point;
      begun = resumed_begun added task asked false (Send (Group (length s.loop.groups))) inside (within added task Asked asked s is) inside_says;
      exits = λ id e mine. asked_leaves id (is.exits id (was_left id e) (mine ∙ ap (λ (g : GroupFields). g.parent) (old_left id e)));
    }
