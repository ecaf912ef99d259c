-- A step begins: the task waits no more, the handle of its sleep is given up, and its coroutine is taken out.
use Rattle.std.proofs.Common.{◌≡◌, ℕ, ◌<◌, ◌⊎◌, ◌==◌, ◌||◌, Bool, true, false, List, Option, Some, None, length, slice_get, slice_set, length-set, ◌∙◌}
use Rattle.std.proofs.Common.{refl, sym, ap, subst, inl, inr, arith}
use Rattle.std.specs.Option.{option_map_or}
use Rattle.std.proofs.lemmas.Bool.{ne_eqb, or_cases, eqb-true}
use Rattle.model_loop.specs.Futures.{is_pending}
use Rattle.model_loop.specs.Handles.{revoke}
use Rattle.model_loop.specs.Owning.{OwnsFutures}
use Rattle.model_loop.specs.Parts.{Task, Parts}
use Rattle.model_loop.specs.Tasks.{change_task, lives, next_task, waiter_of}
use Rattle.model_loop.specs.Ways.{is_running}
use Rattle.model_machine.specs.State as plain
use Rattle.model_machine.specs.State.{Generator, State, generator_of, stands}
use Rattle.law_cancel.proofs.Lookups.{get-set_same, get-set_other}
use Rattle.law_steps.proofs.CancelSound.{plain_within}
use Rattle.aio_task.specs.Keeps.{release}
use Rattle.aio_extra.specs.Added.{Added, GoesBeside, named_in, owned_by}
use Rattle.aio_body.specs.declared.run_state.RunState.{RunState}
use Rattle.aio_gen.specs.declared.generator.Gen.{Gen}
use Rattle.aio_body.specs.declared.resume_point.Slot.{Slot}
use Rattle.aio_body.specs.declared.resume_point.ResumePoint.TheVariants.{Asked}
use Rattle.aio_body.specs.GivingUp.{release_of}
use Rattle.aio_body.specs.Slots.{no_slot}
use Rattle.aio_body.specs.Stands.{Context, Stands, IsOwnSleep, StandsAt, HasSlot, WaitsAs, coroutine_in, holding}
use Rattle.aio_body.proofs.Blocks.{blocks_released}
use Rattle.aio_body.proofs.Kept.{keeps_release}
use Rattle.aio_body.proofs.Lasting.{parts_change}
use Rattle.aio_body.proofs.Slotting.{set_same, set_other, set_length, runs_itself, in_slot, slots_change}

-- ---- the machine: which comes first doesn't matter
pub change_revoke : (id : ℕ) (change : Task → Task) (tag : ℕ) (p : Parts) → change_task id change (revoke tag p) ≡ revoke tag (change_task id change p)
change_revoke id change tag p = at (slice_get p.tasks id)
  where
    at : (o : Option Task)
        → option_map_or (λ (t : Task). record (revoke tag p) { tasks = slice_set p.tasks id (change t) }) o (revoke tag p)
        ≡ revoke tag (option_map_or (λ (t : Task). record p { tasks = slice_set p.tasks id (change t) }) o p)
    at None = refl
    at (Some t) = refl

-- ---- a future is released
own_for : (p : Parts) (named : ℕ → Type 0) (task id : ℕ) → IsOwnSleep p named (Some task) id → waiter_of p task ≡ None → IsOwnSleep p named None id
own_for p named task id own none = record {
  plain = own.plain;
  unnamed = own.unnamed;
  alone = λ other e. absurd (at other e (some_is task other (own.alone other e)));
}
  where
    some_is : (a b : ℕ) → Some a ≡ Some b → a ≡ b
    some_is a b e = cc

    at : (other : ℕ) → waiter_of p other ≡ Some id → task ≡ other → ⊥
    at other e same = let n = subst (λ k. waiter_of p k ≡ None) same none in absurd (cc)

module _ {X : Type 0} {a : Added X} where
  pub stands_released : (out : Option ℕ) (c : Context a) (body : RunState X) (s : State a.Kept) (task id : ℕ) → (h : Stands out c body s)
      → OwnsFutures s.loop.parts → IsOwnSleep s.loop.parts (named_in a s) (Some task) id → waiter_of s.loop.parts task ≡ None
      → is_pending s.loop.parts id ≡ false → Stands out c (record body { parts = release_of id body.parts }) s
  stands_released out c body s task id h owns own none done =
      parts_change out c body s (release id h.name_map) (release_of id body.parts) body.timeouts body.groups body.extra s.loop s.extra c.left c.bar h (record {
        keeps = keeps_release h.name_map body.parts s.loop.parts h.keeps id (plain_within s.loop.parts id own.plain).1 done;
        blocks = blocks_released h.name_map body.timeouts body.groups s.loop id owns own.plain h.blocks;
        profile = refl;
        tasks = refl;
        living = λ other l. l;
        knows = λ tag timer k. record { given = k.given; known = k.known };
        own = λ sleeper other sleeps. sleeps;
        gone = λ other e. gone_go other (or_cases (h.name_map.gone other) (other == id) e);
        time = h.time;
        counts = h.counts;
        extra = a.goes_on h.name_map (release id h.name_map) s.loop.parts s.loop.parts body.extra s.extra h.extra frame;
      }) h.left h.bar refl
    where
      gone_go : (other : ℕ) → (h.name_map.gone other ≡ true) ⊎ ((other == id) ≡ true) → IsOwnSleep s.loop.parts (named_in a s) None other
      gone_go other (inl e) = h.gone other e
      gone_go other (inr e) =
          subst (λ k. IsOwnSleep s.loop.parts (named_in a s) None k) (sym (eqb-true other id e)) (own_for s.loop.parts (named_in a s) task id own none)

      or_none : (b : Bool) → (b || false) ≡ b
      or_none true = refl
      or_none false = refl

      -- it is no own one of what is added
      frame : GoesBeside (owned_by a s.extra) h.name_map s.loop.parts (release id h.name_map) s.loop.parts
      frame = record {
        known = λ tag k. refl;
        tags = omega arith;
        gone = λ other mine.
            ap (λ b. h.name_map.gone other || b) (ne_eqb other id (λ same. own.unnamed (inr (inl (subst (owned_by a s.extra) same mine)))))
            ∙ or_none (h.name_map.gone other);
        futures = omega arith;
        plain = λ other e. e;
        owners = λ other k. refl;
      }

  -- ---- the coroutine is taken out
  pub stands_taken : (c : Context a) (old new : RunState X) (s : State a.Kept) (task : ℕ) (slot : Slot) (coroutine : Gen) → (h : Stands None c old s)
      → slice_get old.slots.items task ≡ Some slot → slot.coroutine ≡ Some coroutine → task < next_task s.loop.parts
      → new ≡ record old { slots = new.slots } → new.slots.items ≡ slice_set old.slots.items task no_slot
      → Stands (Some task) (holding coroutine c) new (stands plain.Asked task s)
  stands_taken c old new s task slot coroutine h there its within frame items =
      slots_change task None (Some task) c (Some coroutine) old new s now.generators h frame (record {
        slots = ap length items ∙ length-set old.slots.items task no_slot;
        generators = set_length task it s;
        found = λ other n. ap (λ (xs : List Slot). slice_get xs other) items ∙ get-set_other old.slots.items task other no_slot n;
        told = λ other n. set_other task other it s n;
        coroutines = λ other n own. in_slot task other n (Some coroutine) own;
      }) own
    where
      it : Generator
      it = record (generator_of task s) { resume_point = plain.Asked }

      now : State a.Kept
      now = stands plain.Asked task s

      inside : task < length s.generators
      inside = subst (λ n. task < n) (sym h.told) within

      some_is : (a b : Slot) → Some a ≡ Some b → a ≡ b
      some_is a b e = cc

      own : lives s.loop.parts task ≡ true → HasSlot a None c.coroutine h.name_map old.code old.slots.items s task
          → HasSlot a (Some task) (Some coroutine) h.name_map old.code new.slots.items now task
      own l was = record {
        slot = no_slot;
        found = ap (λ (xs : List Slot). slice_get xs task) items ∙ get-set_same old.slots.items task slot no_slot there;
        right = record {
          waits =
              subst (λ g. WaitsAs s.program old.code g (coroutine_in (is_running (Some task) task) (Some coroutine) None)) (sym (set_same task it s inside))
              (subst (λ b. WaitsAs s.program old.code it (coroutine_in b (Some coroutine) None)) (sym (runs_itself task))
              (subst (λ o. WaitsAs s.program old.code (generator_of task s) o)
              (ap (λ (x : Slot). x.coroutine) (some_is was.slot slot (sym was.found ∙ there)) ∙ its) was.right.waits));
          resume_point =
              subst (λ (g : Generator). StandsAt h.name_map s.loop.parts (named_in a s) task Asked g.resume_point) (sym (set_same task it s inside)) tt;
        };
      }
