-- What is stood for goes on through calls of what is added.
use Rattle.std.proofs.Common.{◌≡◌, ℕ, zero, suc, ◌<◌, ◌≤◌, ◌⊎◌, Bool, true, false, List, [], ◌∷◌, Option, Some, None, slice_get, ◌∙◌, refl, sym, ap, subst, inl, inr}
use Rattle.std.proofs.Common.{arith}
use Rattle.std.specs.List.{AllByRecursion as Each}
use Rattle.std.specs.Option.{option_map_or}
use Rattle.std.proofs.lemmas.Option.{none-some}
use Rattle.model_value.specs.declared.action.Action.TheVariants as action
use Rattle.model_loop.specs.Futures.{next_future}
use Rattle.model_loop.specs.Ledger.{ByExtra}
use Rattle.model_loop.specs.Loop.{Loop}
use Rattle.model_loop.specs.Parts.{Many, Parts, Plain}
use Rattle.model_loop.specs.Sound.{IsSound}
use Rattle.model_loop.specs.Tasks.{waiter_of}
use Rattle.model_machine.specs.Extra.{ExtraCall, ExtraStep, MakesPlain, MakesMany, Settles, Releases, Registers, CallsSoon, CallsLater, Revokes, Cancels}
use Rattle.model_machine.specs.Extra.{Uncancels, called, made_by, made_by_all}
use Rattle.model_machine.specs.State.{State}
use Rattle.model_machine.specs.Told.{told_in}
use Rattle.law_runs.specs.Allowed.{AreAllowed, IsAllowed, IsCallAllowed, IsOwn, MayCall, Owns, owns_at}
use Rattle.model_machine.specs.Sound.{IsAwaitable, ids_of}
use Rattle.law_runs.proofs.Steps.{all_sound, step_sound}
use Rattle.law_replies.proofs.Counts.{own_there}
use Rattle.law_steps.proofs.CancelSound.{plain_within}
use Rattle.aio_task.specs.View.{View}
use Rattle.aio_extra.specs.Added.{Added, named_in, owned_by}
use Rattle.aio_extra.specs.Called.{CallsAs, IsServed}
use Rattle.aio_body.specs.declared.run_state.RunState.{RunState}
use Rattle.aio_body.specs.Stands.{IsOwnSleep, Context, Stands}
use Rattle.aio_body.proofs.Blocks.{blocks_on}
use Rattle.aio_body.proofs.Lasting.{SameBlocks, parts_change, stands_after}
use Rattle.aio_body.proofs.Leaving.{IsNew, Leaves, leaves_on, leaves_same}
use Rattle.aio_body.proofs.Left.{leaves_handles, leaves_later, leaves_make, leaves_register, leaves_request, leaves_revoke, leaves_settle, leaves_uncancel}

-- ---- what its steps leave
step_leaves : (running : Option ℕ) (told : ℕ → List ℕ) (own : Owns) (step : ExtraStep) (l : Loop) → IsAllowed own step l → IsSound running told l
    → Leaves None l.parts (made_by step l).parts
step_leaves running told own MakesPlain l may sound = leaves_make Plain l.parts (own_there l.parts sound.parts.owns)
step_leaves running told own (MakesMany members) l may sound = leaves_make (Many members false) l.parts (own_there l.parts sound.parts.owns)
step_leaves running told own (Settles future outcome) l may sound = leaves_settle future outcome l.parts may.1.1
step_leaves running told own (Releases future) l may sound = leaves_same l.parts
step_leaves running told own (Registers future key) l may sound = leaves_register future (action.Extra key) l.parts refl
step_leaves running told own (CallsSoon key) l may sound = leaves_handles l.parts (made_by (CallsSoon key) l).parts refl refl refl
step_leaves running told own (CallsLater when key) l may sound = leaves_later when (action.Extra key) l.parts
step_leaves running told own (Revokes tag) l may sound = leaves_revoke tag l.parts
step_leaves running told own (Cancels key future) l may sound = leaves_request (ByExtra key) future l.parts
step_leaves running told own (Uncancels key task) l may sound = leaves_uncancel l.profile task l.parts

pub steps_leave : (running : Option ℕ) (told : ℕ → List ℕ) (own : Owns) (steps : List ExtraStep) (l : Loop) → AreAllowed own steps l
    → IsSound running told l → Leaves None l.parts (made_by_all steps l).parts
steps_leave running told own [] l may sound = leaves_same l.parts
steps_leave running told own (step ∷ steps) l may sound =
    leaves_on None l.parts (made_by step l).parts (made_by_all steps (made_by step l)).parts (step_leaves running told own step l may.0 sound)
    (steps_leave running told own steps (made_by step l) may.1 (step_sound running told own step l may.0 sound))

-- no timeout and no group changes, and the profile stays
step_blocks : (step : ExtraStep) (l : Loop) → SameBlocks l (made_by step l)
step_blocks MakesPlain l = (refl, (refl, refl))
step_blocks (MakesMany members) l = (refl, (refl, refl))
step_blocks (Settles future outcome) l = (refl, (refl, refl))
step_blocks (Releases future) l = (refl, (refl, refl))
step_blocks (Registers future key) l = (refl, (refl, refl))
step_blocks (CallsSoon key) l = (refl, (refl, refl))
step_blocks (CallsLater when key) l = (refl, (refl, refl))
step_blocks (Revokes tag) l = (refl, (refl, refl))
step_blocks (Cancels key future) l = (refl, (refl, refl))
step_blocks (Uncancels key task) l = (refl, (refl, refl))

steps_blocks : (steps : List ExtraStep) (l : Loop) → SameBlocks l (made_by_all steps l)
steps_blocks [] l = (refl, (refl, refl))
steps_blocks (step ∷ steps) l =
    let one = step_blocks step l in
    let others = steps_blocks steps (made_by step l) in
    (others.0 ∙ one.0, (others.1.0 ∙ one.1.0, others.1.1 ∙ one.1.1))

-- what is so of each of a list is so of what is among them
pub each_among : (P : ℕ → Type 0) (xs : List ℕ) → Each P xs → (place id : ℕ) → slice_get xs place ≡ Some id → P id
each_among P [] all place id e = absurd (none-some id e)
each_among P (x ∷ xs) all zero id e = subst P (ap (λ o. option_map_or (λ (y : ℕ). y) o x) e) all.0
each_among P (x ∷ xs) all (suc place) id e = each_among P xs all.1 place id e

-- ---- what is stood for
module _ {X : Type 0} {a : Added X} where
  -- what a call of it may rely on
  pub served_of : (out running : Option ℕ) (c : Context a) (body : RunState X) (s : State a.Kept) → (h : Stands out c body s) → body.parts.called ≡ None
      → body.parts.running ≡ running → MayCall a.meaning running s → IsServed a running h.name_map s body.extra body.parts
  served_of out running c body s h called is may = record {
    keeps = h.keeps;
    stands = h.extra;
    called = called;
    runs = is;
    may = may;
    there = λ id named. at id named (h.name_map.gone id) refl;
    rules = h.profile.rules;
  }
    where
      -- what was released was nobody's
      at : (id : ℕ) → IsAwaitable s.futures s.loop.parts id → (b : Bool) → h.name_map.gone id ≡ b → h.name_map.gone id ≡ false
      at id named false e = e
      at id (inl named) true e = absurd ((h.gone id e).unnamed (inl named))
      at id (inr own) true e =
          absurd (none-some own.0 (sym (plain_within s.loop.parts id (h.gone id e).plain).0 ∙ (may.loop.parts.owns id own.0).1 own.1))

module _ {X : Type 0} {a : Added X} (running out : Option ℕ) (c : Context a) (old : RunState X) (s : State a.Kept) (v : View) (x : X) (call : ExtraCall a.Kept)
    (h : Stands out c old s) (woken : Option ℕ) (may : IsCallAllowed a.meaning woken call s) (sound : IsSound running (told_in s.events) s.loop)
    (r : CallsAs a h.name_map s old.parts v x call) where
  abbrev p : Parts
  p = s.loop.parts

  abbrev q : Parts
  q = (called call s).loop.parts

  leaves : Leaves None p q
  leaves = steps_leave running (told_in s.events) (owns_at (ids_of s) (a.meaning.keeps s.extra) s.loop.parts) call.steps s.loop may.steps sound

  -- the future of a sleep is no own one of what is added, whatever that made
  own_called : (sleeper : Option ℕ) (id : ℕ) → IsOwnSleep p (named_in a s) sleeper id → IsOwnSleep q (named_in a (called call s)) sleeper id
  own_called sleeper id own = record {
    plain = leaves.plain id own.plain;
    unnamed = unnamed;
    alone = λ task e. own.alone task (before task (leaves.waits task id e));
  }
    where
      within : id < next_future p
      within = (plain_within p id own.plain).1

      new : owned_by a s.extra id ⊎ (next_future p ≤ id) → ⊥
      new (inl mine) = own.unnamed (inr (inl mine))
      new (inr past) = omega (arith, within, past)

      unnamed : named_in a (called call s) id → ⊥
      unnamed (inl found) = own.unnamed (inl found)
      unnamed (inr (inl mine)) =
          new (each_among (IsOwn (a.meaning.keeps s.extra).own (next_future p)) (a.meaning.keeps call.state).own may.own mine.0 id mine.1)
      unnamed (inr (inr kept)) = own.unnamed (inr (inr kept))

      before : (task : ℕ) → (waiter_of p task ≡ Some id) ⊎ IsNew None task id → waiter_of p task ≡ Some id
      before task (inl e) = e
      before task (inr e) = absurd e

  -- the state is stood for in which the machine's call leaves it
  pub stands_called : Stands out c (record old { parts = v; extra = x }) (called call s)
  stands_called =
      stands_after None out c old s v old.timeouts old.groups x (called call s).loop call.state c.left h
      (record { name_map = r.name_map; keeps = r.keeps; extends = r.extends }) leaves
      (blocks_on h.name_map r.name_map old.timeouts old.groups s.loop (called call s).loop r.extends leaves.goes_on (steps_blocks call.steps s.loop).0
      (steps_blocks call.steps s.loop).1.0 h.blocks)
      own_called r.stands (r.below ∙ h.left) r.profile (steps_blocks call.steps s.loop).1.1

  pub name_map_called : stands_called.name_map ≡ r.name_map
  unfolding stands_called stands_after parts_change
  name_map_called = refl

  pub sound_called : IsSound running (told_in s.events) (called call s).loop
  sound_called = all_sound running (told_in s.events) (owns_at (ids_of s) (a.meaning.keeps s.extra) s.loop.parts) call.steps s.loop may.steps sound
