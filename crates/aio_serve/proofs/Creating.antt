-- A task that a script makes in a group.
use Rattle.std.proofs.Common.{◌≡◌, ℕ, ◌+◌, ◌^◌, ◌<◌, ◌≤◌, ◌⊎◌, true, false, List, [], ◌∷◌, ◌++◌, Option, Some, None, length, length-set, slice_get, ◌∙◌, refl}
use Rattle.std.proofs.Common.{sym, ap, subst, inl, inr, arith}
use Rattle.std.specs.Option.{option_map, option_map_or}
use Rattle.std.proofs.lemmas.Bool.{false≢true}
use Rattle.model_value.specs.Action.{Action}
use Rattle.model_value.specs.Number.{most}
use Rattle.model_value.specs.Value.{Exc, Value}
use Rattle.model_value.specs.declared.action.Action.TheVariants.{GroupDone}
use Rattle.model_loop.proofs.GroupCases.{create_unless}
use Rattle.model_loop.specs.Futures.{is_pending, is_pending_at, next_future, register}
use Rattle.model_loop.specs.Groups.{Refusal, NotEntered, IsFinished, IsShuttingDown, create, group_of, refusal, refusal_exception, with_child}
use Rattle.model_loop.specs.Loop.{Loop}
use Rattle.model_loop.specs.Parts.{Future, Parts, Task}
use Rattle.model_loop.specs.Tasks.{future_of, lives, next_task, spawn, waiter_of}
use Rattle.model_loop.proofs.FutureCases.{registered, registered_on}
use Rattle.model_value.specs.Value as values
use Rattle.model_machine.specs.Replies.{creates, creates_unless}
use Rattle.model_machine.specs.State.{State, generator, in_loop, with_coroutine}
use Rattle.law_turns.specs.After.{IsAfter}
use Rattle.law_turns.proofs.Made.{register_after}
use Rattle.law_cancel.proofs.Effects.{register-tasks}
use Rattle.law_cancel.proofs.Lookups.{get_within}
use Rattle.law_replies.proofs.Counts.{lives_within, own_there}
use Rattle.refine_parts.proofs.Only.{only_register, only_spawn}
use Rattle.refine_parts.proofs.Waiting.{before_register}
use Rattle.aio_group.specs.declared.created.Created.{Created}
use Rattle.aio_group.specs.Answers.{created_of, refusal_in}
use Rattle.aio_group.specs.GoesOn.{Moves}
use Rattle.aio_group.specs.Stands.{Came}
use Rattle.aio_group.proofs.Going.{register_on, then_on}
use Rattle.aio_task.specs.View.{View}
use Rattle.aio_extra.specs.Added.{Added}
use Rattle.aio_body.specs.Asked.{IsGoing, IsInStep, Says}
use Rattle.aio_body.specs.Slots.{HoldsMore}
use Rattle.aio_body.specs.Stands.{Context, Stands, WaitsAs}
use Rattle.aio_flat.specs.Code.{IsCodeOf}
use Rattle.aio_body.specs.declared.run_state.RunState.{RunState}
use Rattle.aio_body.specs.declared.reply.RequestReply.{RequestReply}
use Rattle.aio_body.specs.declared.reply.RequestReply.TheVariants.{Answers, Raises}
use Rattle.aio_body.proofs.Leaving.{IsNew, Leaves}
use Rattle.aio_body.proofs.Left.{any}
use Rattle.aio_body.proofs.Slotting.{runs_no_other}
use Rattle.aio_body.proofs.Spawned.{LeavesMore, leaves_spawn, stands_made}
use Rattle.aio_serve.proofs.Appending.{Appends, appends_on, appends_only, below_kept}
use Rattle.aio_serve.proofs.GroupsOn.{StepLeaves, blocks_came, kept_of, stands_stepped, step_same}
use Rattle.aio_body.proofs.HasSlot.{within_going}
use Rattle.aio_serve.proofs.Saying.{answers_so, raises_so}

-- ---- a callback is registered
registers : (id : ℕ) (action : Action) (p : Parts)
    → ((register id action p).time ≡ p.time) × (next_future (register id action p) ≡ next_future p)
registers id action p = at (slice_get p.futures id)
  where
    until : (future : Future) (o : Option values.Outcome)
        → ((registered_on o id future action p).time ≡ p.time) × (next_future (registered_on o id future action p) ≡ next_future p)
    until future (Some done) = (refl, refl)
    until future None = (refl, length-set p.futures id (record future { callbacks = future.callbacks ++ action ∷ [] }))

    at : (o : Option Future) → ((registered o id action p).time ≡ p.time) × (next_future (registered o id action p) ≡ next_future p)
    at None = (refl, refl)
    at (Some future) = until future future.outcome

pending_within : (p : Parts) (id : ℕ) → is_pending p id ≡ true → id < next_future p
pending_within p id h = at (slice_get p.futures id) refl h
  where
    at : (o : Option Future) → slice_get p.futures id ≡ o → is_pending_at o ≡ true → id < next_future p
    at None e h = absurd (false≢true h)
    at (Some future) e h = get_within p.futures id future e

leaves_told : (id group task : ℕ) (p : Parts) → Leaves None p (register id (GroupDone group task) p)
leaves_told id group task p = record {
  tasks = a.same refl;
  living = λ other l. living other l;
  plain = a.plain;
  waits = λ other on w. inl ((before_register id action p).before other on w);
  time = (registers id action p).0;
  counts = λ h other.
      subst (λ n. n ≤ most) (sym (ap (λ (ts : List Task). option_map_or (λ (it : Task). it.cancels) (slice_get ts other) 0) (register-tasks id action p)))
      (h other);
  goes_on = register_on id action p;
}
  where
    action : Action
    action = GroupDone group task

    q : Parts
    q = register id (GroupDone group task) p

    a : IsAfter any false None p q
    a = register_after any false None id (GroupDone group task) p refl

    living : (other : ℕ) → lives q other ≡ true → lives p other ≡ true
    living other l = at (a.pends (future_of p other) here) (pending_within q (future_of p other) here)
      where
        inside : other < next_task p
        inside = subst (λ n. other < n) (a.same refl) (lives_within q other l)

        here : is_pending q (future_of p other) ≡ true
        here = sym (ap (is_pending q) (a.owned other inside)) ∙ l

        at : (is_pending p (future_of p other) ≡ true) ⊎ (next_future p ≤ future_of p other) → future_of p other < next_future q → lives p other ≡ true
        at (inl h) within = h
        at (inr past) within = let made = (registers id (GroupDone group task) p).1 in absurd (omega (arith, past, within, made))

-- ---- a child is made
more_on : (p q r : Parts) → LeavesMore p q → Leaves None q r → LeavesMore p r
more_on p q r a b = record {
  tasks = b.tasks ∙ a.tasks;
  living = λ task l. a.living task (b.living task l);
  plain = λ id e. b.plain id (a.plain id e);
  waits = λ task id e. at task id (b.waits task id e);
  time = b.time ∙ a.time;
  counts = λ h. b.counts (a.counts h);
  goes_on = then_on p q r a.goes_on b.goes_on;
}
  where
    at : (task id : ℕ) → (waiter_of q task ≡ Some id) ⊎ IsNew None task id → waiter_of p task ≡ Some id
    at task id (inl e) = a.waits task id e
    at task id (inr e) = absurd e

child_leaves : (id : ℕ) (p : Parts) → ((task : ℕ) → task < next_task p → future_of p task < next_future p) → LeavesMore p (with_child id p)
child_leaves id p made =
    more_on p (spawn p) (with_child id p) (leaves_spawn p made) (leaves_told (next_future p) id (next_task p) (spawn p))

child_appends : (id : ℕ) (p : Parts) → Appends p (with_child id p)
child_appends id p =
    appends_on p (spawn p) (with_child id p) (appends_only p (spawn p) (only_spawn p))
    (appends_only (spawn p) (with_child id p) (only_register (next_future p) (GroupDone id (next_task p)) (spawn p)))

-- ---- refused or not
refused_is : (o : Option Refusal) (task : ℕ) → refusal_in (created_of o task) ≡ o
refused_is None task = refl
refused_is (Some NotEntered) task = refl
refused_is (Some IsFinished) task = refl
refused_is (Some IsShuttingDown) task = refl

module _ {X : Type 0} {a : Added X} (task id coroutine : ℕ) (arguments : List Value) (c : Context a) (old mid : RunState X) (s : State a.Kept)
    (h : IsGoing task c old s)
    (moves : Moves old.parts mid.parts) (frame : mid ≡ record old { parts = mid.parts; groups = mid.groups })
    (came : Came h.in_step.stands.name_map s.loop mid.groups mid.parts (create id s.loop)) where
  called_is : mid.parts.called ≡ None
  called_is = ap (λ (v : View). v.called) moves.frame ∙ h.in_step.called

  running_is : mid.parts.running ≡ Some task
  running_is = ap (λ (v : View). v.running) moves.frame ∙ h.in_step.running

  profile_is : mid.parts.profile ≡ old.parts.profile
  profile_is = ap (λ (v : View). v.profile) moves.frame

  -- nothing changed
  refused_stands : (cause : Refusal) → refusal (group_of s.loop id) ≡ Some cause → IsInStep task c mid s
  refused_stands cause r = record {
    stands =
        subst (λ b. Stands (Some task) c b s) (sym frame)
        (subst (λ (l : Loop). Stands (Some task) c (record old { parts = mid.parts; groups = mid.groups }) (record s { loop = l })) same
        (stands_stepped (Some task) c old s mid.parts mid.groups (create id) h.in_step.stands came
        (subst (λ l. StepLeaves s.loop l) (sym same) (step_same s.loop s.loop refl refl refl)) profile_is));
    called = called_is;
    running = running_is;
  }
    where
      same : create id s.loop ≡ s.loop
      same = ap (λ o. create_unless o id s.loop) r

  made_stands : (new : RunState X) → refusal (group_of s.loop id) ≡ None → HoldsMore coroutine arguments mid new → length old.slots.items + 1 < 2 ^ 32
      → IsInStep task c new (with_coroutine coroutine arguments (in_loop (create id) s))
  made_stands new r holds few = record {
    stands =
        subst (λ b. Stands (Some task) c b (with_coroutine coroutine arguments (in_loop (create id) s))) (sym whole)
        (stands_made (Some task) c old (record old { slots = new.slots }) s mid.parts mid.groups (create id) coroutine arguments h.in_step.stands
        (kept_of came) (subst (λ (l : Loop). LeavesMore p l.parts) (sym same) (child_leaves id p made))
        (blocks_came h.in_step.stands.name_map old.timeouts old.groups mid.groups mid.parts s.loop (create id s.loop) came
        (ap (λ (l : Loop). l.timeouts) same) h.in_step.stands.blocks)
        (below_kept h.in_step.stands.name_map came.name_map old.parts mid.parts p (create id s.loop).parts h.in_step.stands.keeps came.stands.keeps
        came.extends.bar
        (subst (λ (l : Loop). Appends p l.parts) (sym same) (child_appends id p)))
        (record {
          slot = holds.slot;
          frame = refl;
          slots = holds.slots ∙ ap (λ (b : RunState X). b.slots.items ++ holds.slot ∷ []) frame;
          resume_point = holds.resume_point;
          waits = λ program code.
              subst (λ (b : RunState X). WaitsAs program b.code (generator coroutine arguments) holds.slot.coroutine) frame
              (holds.waits program (subst (λ (b : RunState X). IsCodeOf program b.code) (sym frame) code));
        })
        few profile_is (ap (λ (l : Loop). l.profile) same) (runs_no_other task (next_task p) (λ e. let within = within_going task c old s h in omega (arith, within, e))));
    called = ap (λ (b : RunState X). b.parts.called) holds.frame ∙ called_is;
    running = ap (λ (b : RunState X). b.parts.running) holds.frame ∙ running_is;
  }
    where
      p : Parts
      p = s.loop.parts

      made : (other : ℕ) → other < next_task p → future_of p other < next_future p
      made = own_there p h.sound.others.loop.parts.owns

      same : create id s.loop ≡ create_unless None id s.loop
      same = ap (λ o. create_unless o id s.loop) r

      whole : new ≡ record old { slots = new.slots; parts = mid.parts; groups = mid.groups }
      whole = holds.frame ∙ ap (λ (b : RunState X). record b { slots = new.slots }) frame

  -- what the call answered tells which
  fault_of : option_map refusal_exception (refusal_in (created_of (refusal (group_of s.loop id)) (next_task s.loop.parts)))
      ≡ option_map refusal_exception (refusal (group_of s.loop id))
  fault_of = ap (option_map refusal_exception) (refused_is (refusal (group_of s.loop id)) (next_task s.loop.parts))

  pub refuses_so : (answer : Created) (fault : Exc) (said : RequestReply) → answer ≡ created_of (refusal (group_of s.loop id)) (next_task s.loop.parts)
      → Some fault ≡ option_map refusal_exception (refusal_in answer) → said ≡ Raises fault → Says task c mid said (creates id coroutine arguments s)
  refuses_so answer fault said is e says =
      at (refusal (group_of s.loop id)) refl (e ∙ ap (λ a. option_map refusal_exception (refusal_in a)) is ∙ fault_of)
    where
      at : (o : Option Refusal) → refusal (group_of s.loop id) ≡ o → Some fault ≡ option_map refusal_exception o
          → Says task c mid said (creates id coroutine arguments s)
      at None r f = absurd (cc)
      at (Some cause) r f =
          let same : fault ≡ refusal_exception cause = cc in
          raises_so task c mid s said (creates id coroutine arguments s) (refusal_exception cause) (says ∙ ap Raises same)
          (ap (λ o. creates_unless o id coroutine arguments s) r) (refused_stands cause r)

  pub creates_so : (answer : Created) (new : RunState X) (said : RequestReply) → answer ≡ created_of (refusal (group_of s.loop id)) (next_task s.loop.parts)
      → None ≡ option_map refusal_exception (refusal_in answer) → said ≡ Answers (values.Task (next_task s.loop.parts))
      → HoldsMore coroutine arguments mid new → length old.slots.items + 1 < 2 ^ 32
      → Says task c new said (creates id coroutine arguments s)
  creates_so answer new said is e says holds few =
      at (refusal (group_of s.loop id)) refl (e ∙ ap (λ a. option_map refusal_exception (refusal_in a)) is ∙ fault_of)
    where
      at : (o : Option Refusal) → refusal (group_of s.loop id) ≡ o → None ≡ option_map refusal_exception o
          → Says task c new said (creates id coroutine arguments s)
      at (Some cause) r f = absurd (cc)
      at None r f =
          answers_so task c new (with_coroutine coroutine arguments (in_loop (create id) s)) said (creates id coroutine arguments s)
          (values.Task (next_task s.loop.parts)) says (ap (λ o. creates_unless o id coroutine arguments s) r) (made_stands new r holds few)
