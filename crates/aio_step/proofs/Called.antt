-- A task's step that was called: it lives, has its slot, and stands as the machine says.
use Rattle.std.proofs.Common.{◌≡◌, ℕ, ◌<◌, true, Some, None, length, slice_get, ◌∙◌, sym, ap, subst, refl}
use Rattle.model_value.specs.Input.{Input}
use Rattle.model_value.specs.Value.{Nothing}
use Rattle.model_value.specs.declared.input.Input.TheVariants.{Send}
use Rattle.model_wire.specs.declared.event.Event.TheVariants as event
use Rattle.model_loop.specs.Tasks.{lives, next_task}
use Rattle.model_machine.specs.Replies.{decides}
use Rattle.model_machine.specs.Sound.{Ids, IsAsking, IsLeft, IsOpenedAt, ids_of, sends_made}
use Rattle.model_machine.specs.State as plain
use Rattle.model_machine.specs.State.{State, generator_of, noted, unbooked_in}
use Rattle.law_cancel.proofs.Lookups.{get_within}
use Rattle.law_replies.specs.InStep.{IsAsked, RepliesInStep}
use Rattle.law_runs.proofs.Beginning.{begins_in, begun_asked, stepped_lives, heard_made, begun_more}
use Rattle.law_replies.proofs.Ids.{input_up}
use Rattle.law_steps.proofs.Waiting.{task_there}
use Rattle.aio_extra.specs.Added.{Added}
use Rattle.aio_body.specs.declared.run_state.RunState.{RunState}
use Rattle.aio_body.specs.declared.resume_point.Slot.{Slot}
use Rattle.aio_body.specs.Stands.{Context, HasSlot}
use Rattle.aio_step.specs.Stepping.{IsCalled, HearsMade, begun_by, begun_in}
use Rattle.aio_body.specs.Ids.{ids_in}
use Rattle.aio_body.proofs.Ids.{ids_as}
use Rattle.aio_body.proofs.Sound.{extra_sound}

pub made_as : (n m : Ids) (input : Input) → n ≡ m → sends_made m input ≡ true → sends_made n input ≡ true
made_as n m input same made = ap (λ k. sends_made k input) same ∙ made

module _ {X : Type 0} {a : Added X} (task : ℕ) (c : Context a) (body : RunState X) (s : State a.Kept) (h : IsCalled task c body s) where
  lived : lives h.before.loop.parts task ≡ true
  lived = stepped_lives a.meaning h.before task (Send Nothing) h.handle h.rest h.pending h.live h.steps h.sound

  pub called_lives : lives s.loop.parts task ≡ true
  called_lives = subst (λ (x : State a.Kept). lives x.loop.parts task ≡ true) (sym h.after) lived

  pub called_within : task < next_task s.loop.parts
  called_within = let it = task_there s.loop.parts task called_lives in get_within s.loop.parts.tasks task it.0 it.1

  pub called_slot : task < length body.slots.items
  called_slot = subst (λ n. task < n) (sym h.stands.made) called_within

  -- ---- its slot
  abbrev pub own_slot : HasSlot a None c.coroutine h.stands.name_map body.code body.slots.items s task
  own_slot = h.stands.held task called_lives

  some_is : (a b : Slot) → Some a ≡ Some b → a ≡ b
  some_is a b e = cc

  pub called_own : (slot : Slot) → slice_get body.slots.items task ≡ Some slot → slot ≡ own_slot.slot
  called_own slot there = some_is slot own_slot.slot (sym there ∙ own_slot.found)

  -- ---- what its coroutine asked
  pub called_asking : IsAsking a.meaning h.before task
  called_asking = h.sound.asking task lived refl

  pub called_asked : (input : Input) → IsAsked a.meaning task (generator_of task s).resume_point called_asking.asked (begun_in task input s)
  called_asked input =
      subst (λ (x : State a.Kept). IsAsked a.meaning task (generator_of task x).resume_point called_asking.asked (begun_in task input x)) (sym h.after)
      (begun_asked a.meaning h.before task input h.handle h.rest h.pending h.live h.steps h.sound called_asking.asked called_asking.says)

  -- a group at whose exit it stands goes on being left
  pub called_leaving : (input : Input) (id : ℕ) → (generator_of task s).resume_point ≡ plain.Leaving id → IsLeft (begun_in task input s) id
  called_leaving input =
      subst (λ (x : State a.Kept). (id : ℕ) → (generator_of task x).resume_point ≡ plain.Leaving id → IsLeft (begun_in task input x) id) (sym h.after)
      (h.sound.resume_point task lived refl).leaving_now

  -- what it stands at was opened
  pub called_opened : (input : Input) → IsOpenedAt (begun_in task input s).streams (generator_of task s).resume_point
  called_opened input =
      subst (λ (x : State a.Kept). IsOpenedAt (begun_in task input x).streams (generator_of task x).resume_point) (sym h.after)
      (h.sound.resume_point task lived refl).opened

  same_ids : ids_in body ≡ ids_of h.before
  same_ids = ids_as None c body s h.stands ∙ ap (λ (x : State a.Kept). ids_of x) h.after

  -- what it is taken for names what was made
  pub called_heard : (input : Input) → HearsMade input body
      → sends_made (ids_of (begun_in task input s)) (begun_by task input s).input ≡ true
  called_heard input made =
      subst (λ (x : State a.Kept). sends_made (ids_of (begun_in task input x)) (begun_by task input x).input ≡ true) (sym h.after)
      (input_up (ids_of h.before) (ids_of (begun_in task input (noted (event.Ran h.handle.action) (unbooked_in (λ p. record p { pending = h.rest }) h.before))))
      (begun_more a.meaning h.before task input h.handle h.rest h.pending h.live h.steps h.sound)
      (begun_by task input (noted (event.Ran h.handle.action) (unbooked_in (λ p. record p { pending = h.rest }) h.before))).input
      (heard_made a.meaning h.before task input h.handle h.rest h.pending h.live h.steps h.sound (extra_sound a) given_
      (generator_of task h.before).resume_point))
    where
      given_ : sends_made (ids_of h.before) input ≡ true
      given_ = ap (λ n. sends_made n input) (sym same_ids) ∙ made

  -- what the input means is sound
  pub called_sound : (input : Input) → HearsMade input body
      → RepliesInStep a.meaning true task (decides a.meaning (generator_of task s).resume_point task (begun_by task input s).input (begun_in task input s))
  called_sound input made =
      subst (λ (x : State a.Kept).
      RepliesInStep a.meaning true task (decides a.meaning (generator_of task x).resume_point task (begun_by task input x).input (begun_in task input x)))
      (sym h.after)
      (begins_in a.meaning h.before task input h.handle h.rest h.pending h.live h.steps h.sound (extra_sound a)
      (ap (λ n. sends_made n input) (sym same_ids) ∙ made))
