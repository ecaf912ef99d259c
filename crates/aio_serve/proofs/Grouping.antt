-- What requests of groups come to in the machine, and what the groups in code need for them.
use Rattle.std.proofs.Common.{◌≡◌, ℕ, ◌<◌, ◌≤◌, true, false, not, ◌&&◌, List, Option, Some, None, length, ◌∙◌, refl, sym, ap, subst}
use Rattle.std.proofs.Math.Logic.{∥∥₁_elim}
use Rattle.std.proofs.Props.{props}
use Rattle.std.proofs.lemmas.Bool.{eq-eqb, le-ltb, lt-ltb}
use Rattle.model_value.specs.declared.action.Action.TheVariants.{GroupDone}
use Rattle.model_value.specs.declared.request.Request.TheVariants as request
use Rattle.model_value.specs.Value.{Value, Exc}
use Rattle.model_says.specs.Operations.{out_of_range}
use Rattle.model_says.specs.Requests.{bad_argument}
use Rattle.model_loop.specs.Cancel.{has_seen}
use Rattle.model_loop.specs.Groups.{exit_begin, group_of, next_group}
use Rattle.model_loop.specs.Loop.{Group}
use Rattle.model_loop.specs.Tasks.{next_task}
use Rattle.model_loop.specs.Ways.{is_running}
use Rattle.model_machine.specs.Arguments.{as_group}
use Rattle.model_machine.specs.Extra.{Extra}
use Rattle.model_machine.specs.Replies.{Raises, creates, enters_group, exits_group, most_ids, numbered_if, reply}
use Rattle.model_machine.specs.State as resume_point
use Rattle.model_machine.specs.State.{State}
use Rattle.law_replies.proofs.Counts.{lives_within}
use Rattle.aio_group.specs.Held.{held_at}
use Rattle.aio_group.specs.Stands.{AllBelong}
use Rattle.aio_extra.specs.Added.{Added}
use Rattle.aio_body.specs.declared.run_state.RunState.{RunState}
use Rattle.aio_body.specs.Asked.{IsDeciding, IsGoing, SomeGoes, IsAskingFor}
use Rattle.aio_body.specs.Stands.{Context, Stands, Possible}
use Rattle.aio_body.specs.Taken.{IsTaken}
use Rattle.aio_serve.proofs.GroupsNeed.{all_belong, all_belong_prop, is_child, may_exit, shown_is}
use Rattle.aio_serve.proofs.GroupsOn.{groups_stand}

-- ---- what is meant
module _ {S : Type 0} (added : Extra S) (task : ℕ) (s : State S) where
  pub none_grouped : most_ids ≤ next_group s.loop → reply added task request.GroupEnter s ≡ Raises out_of_range s
  unfolding reply
  none_grouped many = ap (λ b. numbered_if b (enters_group task) s) (le-ltb (next_group s.loop) most_ids many)

  pub one_grouped : next_group s.loop < most_ids → reply added task request.GroupEnter s ≡ enters_group task s
  unfolding reply
  one_grouped few = ap (λ b. numbered_if b (enters_group task) s) (lt-ltb (next_group s.loop) most_ids few)

  pub exit_refused : (group : Value) (raised : Option Exc) → as_group group ≡ None
      → reply added task (request.GroupExit group raised) s ≡ Raises bad_argument s
  unfolding reply
  exit_refused group raised e = rw e refl

  pub exit_means : (group : Value) (raised : Option Exc) (id : ℕ) → as_group group ≡ Some id
      → reply added task (request.GroupExit group raised) s ≡ exits_group (exit_begin raised id s.loop) task id s
  unfolding reply
  exit_means group raised id e = rw e refl

  pub create_refused : (group : Value) (coroutine : ℕ) (arguments : List Value) → as_group group ≡ None
      → reply added task (request.Create group coroutine arguments) s ≡ Raises bad_argument s
  unfolding reply
  create_refused group coroutine arguments e = rw e refl

  pub none_created : (group : Value) (id coroutine : ℕ) (arguments : List Value) → as_group group ≡ Some id → most_ids ≤ next_task s.loop.parts
      → reply added task (request.Create group coroutine arguments) s ≡ Raises out_of_range s
  unfolding reply
  none_created group id coroutine arguments e many =
      rw e (ap (λ b. numbered_if b (creates id coroutine arguments) s) (le-ltb (next_task s.loop.parts) most_ids many))

  pub one_created : (group : Value) (id coroutine : ℕ) (arguments : List Value) → as_group group ≡ Some id → next_task s.loop.parts < most_ids
      → reply added task (request.Create group coroutine arguments) s ≡ creates id coroutine arguments s
  unfolding reply
  one_created group id coroutine arguments e few =
      rw e (ap (λ b. numbered_if b (creates id coroutine arguments) s) (lt-ltb (next_task s.loop.parts) most_ids few))

module _ {X : Type 0} {a : Added X} where
  -- ---- that groups belong to the parts
  belong_going : (task : ℕ) (c : Context a) (body : RunState X) (s : State a.Kept) → IsGoing task c body s → AllBelong body.parts body.groups
  belong_going task c body s h =
      all_belong (Some task) c body s h.in_step.stands (λ id. (h.sound.others.loop.groups id).plain_exit)

  pub belong_may : (task : ℕ) (body : RunState X) → Possible a (IsGoing task) body → AllBelong body.parts body.groups
  belong_may task body m = ∥∥₁_elim m (all_belong_prop body.parts body.groups) (λ w. belong_going task w.0 body w.1.0 w.1.1)

  pub belong_some : (body : RunState X) → Possible a SomeGoes body → AllBelong body.parts body.groups
  belong_some body m = ∥∥₁_elim m (all_belong_prop body.parts body.groups) (λ w. belong_going w.1.1.0 w.0 body w.1.0 w.1.1.1)

  pub belong_decides : (task : ℕ) (stood : resume_point.ResumePoint) (body : RunState X) → Possible a (IsDeciding task stood) body
      → AllBelong body.parts body.groups
  belong_decides task stood body m =
      ∥∥₁_elim m (all_belong_prop body.parts body.groups) (λ w.
      all_belong (Some task) w.0 body w.1.0 w.1.1.in_step.stands (λ id. (w.1.1.asked.others.loop.groups id).plain_exit))

  belong_taken : (group task : ℕ) (c : Context a) (body : RunState X) (s : State a.Kept) → IsTaken (GroupDone group task) c body s
      → AllBelong body.parts body.groups
  belong_taken group task c body s h =
      subst (λ x. Stands None c body x → AllBelong body.parts body.groups) (sym h.after)
      (λ stands. all_belong None c body _ stands (λ id. (h.sound.loop.groups id).plain_exit)) h.stands

  pub belong_takes : (group task : ℕ) (body : RunState X) → Possible a (IsTaken (GroupDone group task)) body → AllBelong body.parts body.groups
  belong_takes group task body m =
      ∥∥₁_elim m (all_belong_prop body.parts body.groups) (λ w. belong_taken group task w.0 body w.1.0 w.1.1)

  -- ---- an exit
  pub exit_entered : (task : ℕ) (group : Value) (raised : Option Exc) (id : ℕ) (body : RunState X)
      → Possible a (IsAskingFor task (request.GroupExit group raised)) body
      → as_group group ≡ Some id → (held_at body.groups id).entered ≡ true
  exit_entered task group raised id body m named =
      ∥∥₁_elim m (hlevel props) (λ w.
      let h = w.1.1.going in
      let same = shown_is h.in_step.stands.name_map body.parts w.1.0.loop.parts body.groups w.1.0.loop id
      (groups_stand (Some task) w.0 body w.1.0 h.in_step.stands) in
      ap (λ (g : Group). g.entered) same ∙ (may_exit a.meaning task w.1.0 group raised id h.sound w.1.1.says named).entered)

  pub exit_fresh : (task : ℕ) (group : Value) (raised : Option Exc) (id : ℕ) (body : RunState X)
      → Possible a (IsAskingFor task (request.GroupExit group raised)) body
      → as_group group ≡ Some id → (held_at body.groups id).exiting ≡ false
  exit_fresh task group raised id body m named =
      ∥∥₁_elim m (hlevel props) (λ w.
      let h = w.1.1.going in
      let same = shown_is h.in_step.stands.name_map body.parts w.1.0.loop.parts body.groups w.1.0.loop id
      (groups_stand (Some task) w.0 body w.1.0 h.in_step.stands) in
      ap (λ (g : Group). g.exiting) same ∙ (may_exit a.meaning task w.1.0 group raised id h.sound w.1.1.says named).fresh)

  pub exit_goes_on : (task group : ℕ) (body : RunState X) → Possible a (IsDeciding task (resume_point.Leaving group)) body
      → ((held_at body.groups group).exiting && not (held_at body.groups group).ended) ≡ true
  exit_goes_on task group body m =
      ∥∥₁_elim m (hlevel props) (λ w.
      let h = w.1.1 in
      let same = shown_is h.in_step.stands.name_map body.parts w.1.0.loop.parts body.groups w.1.0.loop group
      (groups_stand (Some task) w.0 body w.1.0 h.in_step.stands) in
      ap (λ (g : Group). g.exiting && not g.ended) same ∙ h.leaving group refl)

  -- ---- a step that began
  pub within_deciding : (task : ℕ) (stood : resume_point.ResumePoint) (c : Context a) (body : RunState X) (s : State a.Kept) → IsDeciding task stood c body s
      → task < next_task s.loop.parts
  within_deciding task stood c body s h =
      lives_within s.loop.parts task (h.asked.others.loop.parts.runs task (runs task))
    where
      runs : (n : ℕ) → is_running (Some n) n ≡ true
      runs n = eq-eqb n n refl

  pub idle_decides : (task : ℕ) (stood : resume_point.ResumePoint) (body : RunState X) → Possible a (IsDeciding task stood) body → body.parts.called ≡ None
  idle_decides task stood body m = ∥∥₁_elim m (hlevel props) (λ w. w.1.1.in_step.called)

  pub running_decides : (task : ℕ) (stood : resume_point.ResumePoint) (body : RunState X) → Possible a (IsDeciding task stood) body
      → body.parts.running ≡ Some task
  running_decides task stood body m = ∥∥₁_elim m (hlevel props) (λ w. w.1.1.in_step.running)

  pub slot_decides : (task : ℕ) (stood : resume_point.ResumePoint) (body : RunState X) → Possible a (IsDeciding task stood) body
      → task < length body.slots.items
  slot_decides task stood body m =
      ∥∥₁_elim m (hlevel props) (λ w.
      subst (λ n. task < n) (sym w.1.1.in_step.stands.made) (within_deciding task stood w.0 body w.1.0 w.1.1))

  -- ---- a child is done
  child_taken : (group task : ℕ) (c : Context a) (body : RunState X) (s : State a.Kept) → IsTaken (GroupDone group task) c body s
      → has_seen (held_at body.groups group).children task ≡ true
  child_taken group task c body s h =
      let same = shown_is h.stands.name_map body.parts s.loop.parts body.groups s.loop group (groups_stand None c body s h.stands) in
      ap (λ (g : Group). has_seen g.children task) same
      ∙ ap (λ (x : State a.Kept). has_seen (group_of x.loop group).children task) h.after
      ∙ is_child group task _ (group_of h.before.loop group) h.before.loop.parts h.handle h.rest (h.sound.loop.groups group).tellings h.pending h.live h.runs

  pub child_takes : (group task : ℕ) (body : RunState X) → Possible a (IsTaken (GroupDone group task)) body
      → has_seen (held_at body.groups group).children task ≡ true
  child_takes group task body m = ∥∥₁_elim m (hlevel props) (λ w. child_taken group task w.0 body w.1.0 w.1.1)

  pub idle_takes : (group task : ℕ) (body : RunState X) → Possible a (IsTaken (GroupDone group task)) body → body.parts.called ≡ None
  idle_takes group task body m = ∥∥₁_elim m (hlevel props) (λ w. w.1.1.called)
