-- Changes of the slot of the task whose coroutine is taken out.
use Rattle.std.proofs.Common.{◌≡◌, ℕ, ◌^◌, ◌<◌, ◌⊎◌, Bool, true, false, List, [], ◌∷◌, ◌++◌, Option, Some, None, length, slice_get, slice_set, length-set, ◌∙◌}
use Rattle.std.proofs.Common.{refl, sym, ap, subst, inl, inr}
use Rattle.std.specs.Option.{option_map_or}
use Rattle.std.proofs.lemmas.Bool.{cases_eq, eq-eqb, ne_eqb, false≢true}
use Rattle.std.proofs.lemmas.List.{get_or-set_same, get_or-set_other}
use Rattle.model_loop.specs.Tasks.{lives, next_task}
use Rattle.model_loop.specs.Ways.{is_running}
use Rattle.model_machine.specs.State as plain
use Rattle.model_value.specs.Input.{Input}
use Rattle.model_machine.specs.State.{Generator, State, generator, generator_of, resumed, with_generator, stands}
use Rattle.law_cancel.proofs.Lookups.{get-set_same, get-set_other}
use Rattle.aio_gen.specs.declared.generator.Gen.{Gen}
use Rattle.aio_extra.specs.Added.{Added, named_in}
use Rattle.aio_body.specs.declared.run_state.RunState.{RunState}
use Rattle.aio_body.specs.declared.resume_point.Slot.{Slot}
use Rattle.aio_body.specs.declared.resume_point.ResumePoint.{ResumePoint}
use Rattle.aio_gen.specs.Gens.{GenStandsFor}
use Rattle.aio_body.specs.Slots.{with_slot, resume_point_at, put_back}
use Rattle.aio_body.specs.Stands.{Context, Stands, StandsAt, HasSlot, WaitsAs, coroutine_in, holding}

-- ---- generators
pub set_same : {S : Type 0} (task : ℕ) (it : Generator) (s : State S) → task < length s.generators → generator_of task (with_generator task it s) ≡ it
set_same task it s within = get_or-set_same s.generators task it (generator 0 []) within

pub set_other : {S : Type 0} (task other : ℕ) (it : Generator) (s : State S) → (task ≡ other → ⊥)
    → generator_of other (with_generator task it s) ≡ generator_of other s
set_other task other it s n = get_or-set_other s.generators task other it (generator 0 []) (λ e. n (sym e))

pub set_length : {S : Type 0} (task : ℕ) (it : Generator) (s : State S) → length (with_generator task it s).generators ≡ length s.generators
set_length task it s = length-set s.generators task it

-- ---- slots
pub with_there : (task : ℕ) (change : Slot → Slot) (slots : List Slot) (slot : Slot) → slice_get slots task ≡ Some slot
    → with_slot task change slots ≡ slice_set slots task (change slot)
with_there task change slots slot e = ap (λ o. option_map_or (λ it. slice_set slots task (change it)) o slots) e

pub with_same : (task : ℕ) (change : Slot → Slot) (slots : List Slot) (slot : Slot) → slice_get slots task ≡ Some slot
    → slice_get (with_slot task change slots) task ≡ Some (change slot)
with_same task change slots slot e =
    ap (λ (l : List Slot). slice_get l task) (with_there task change slots slot e) ∙ get-set_same slots task slot (change slot) e

pub with_other : (task other : ℕ) (change : Slot → Slot) (slots : List Slot) → (task ≡ other → ⊥)
    → slice_get (with_slot task change slots) other ≡ slice_get slots other
with_other task other change slots n = at (slice_get slots task)
  where
    at : (o : Option Slot) → slice_get (option_map_or (λ it. slice_set slots task (change it)) o slots) other ≡ slice_get slots other
    at None = refl
    at (Some slot) = get-set_other slots task other (change slot) n

pub with_length : (task : ℕ) (change : Slot → Slot) (slots : List Slot) → length (with_slot task change slots) ≡ length slots
with_length task change slots = at (slice_get slots task)
  where
    at : (o : Option Slot) → length (option_map_or (λ it. slice_set slots task (change it)) o slots) ≡ length slots
    at None = refl
    at (Some slot) = length-set slots task (change slot)

-- ---- tasks
pub runs_itself : (task : ℕ) → is_running (Some task) task ≡ true
runs_itself task = eq-eqb task task refl

pub runs_no_other : (task other : ℕ) → (task ≡ other → ⊥) → is_running (Some task) other ≡ false
runs_no_other task other n = ne_eqb task other n

-- the coroutine of another task is the one in its slot
pub in_slot : (task other : ℕ) → (task ≡ other → ⊥) → (taken own : Option Gen) → coroutine_in (is_running (Some task) other) taken own ≡ own
in_slot task other n taken own = ap (λ b. coroutine_in b taken own) (runs_no_other task other n)

-- What isn't this task's stays: other tasks' slots and generators, and which coroutine each of them has.
pub record OthersStay {S : Type 0} (task : ℕ) (was out : Option ℕ) (before taken : Option Gen) (old new : List Slot) (s now : State S) : Type 0 where
  pub slots : length new ≡ length old
  pub generators : length now.generators ≡ length s.generators
  pub found : (other : ℕ) → (task ≡ other → ⊥) → slice_get new other ≡ slice_get old other
  pub told : (other : ℕ) → (task ≡ other → ⊥) → generator_of other now ≡ generator_of other s
  pub coroutines : (other : ℕ) → (task ≡ other → ⊥) → (own : Option Gen)
      → coroutine_in (is_running out other) taken own ≡ coroutine_in (is_running was other) before own

module _ {X : Type 0} {a : Added X} where
  -- Nothing changes but what is this task's.
  pub slots_change : (task : ℕ) (was out : Option ℕ) (c : Context a) (taken : Option Gen) (old new : RunState X) (s : State a.Kept)
      (generators : List Generator) (h : Stands was c old s) → new ≡ record old { slots = new.slots }
      → OthersStay task was out c.coroutine taken old.slots.items new.slots.items s (record s { generators = generators })
      → (lives s.loop.parts task ≡ true → HasSlot a was c.coroutine h.name_map old.code old.slots.items s task
      → HasSlot a out taken h.name_map old.code new.slots.items (record s { generators = generators }) task)
      → Stands out (record c { coroutine = taken }) new (record s { generators = generators })
  slots_change task was out c taken old new s generators h frame others own =
      subst (λ b. Stands out (record c { coroutine = taken }) b now) (sym frame) (record {
        name_map = h.name_map;
        code = h.code;
        profile = h.profile;
        keeps = h.keeps;
        blocks = h.blocks;
        left = h.left;
        bar = h.bar;
        made = others.slots ∙ h.made;
        told = others.generators ∙ h.told;
        few = subst (λ n. n < 2 ^ 32) (sym others.slots) h.few;
        held = λ other l. has other l (cases_eq task other);
        gone = h.gone;
        futures = h.futures;
        few_futures = h.few_futures;
        main_done = h.main_done;
        transports = h.transports;
        time = h.time;
        counts = h.counts;
        events = h.events;
        rest = h.rest;
        extra = h.extra;
        count = h.count;
      })
    where
      now : State a.Kept
      now = record s { generators = generators }

      has : (other : ℕ) → lives s.loop.parts other ≡ true → (task ≡ other) ⊎ (task ≡ other → ⊥)
          → HasSlot a out taken h.name_map old.code new.slots.items now other
      has other l (inl same) =
          let living = subst (λ k. lives s.loop.parts k ≡ true) (sym same) l in
          subst (λ k. HasSlot a out taken h.name_map old.code new.slots.items now k) same (own living (h.held task living))
      has other l (inr n) = let it = h.held other l in record {
        slot = it.slot;
        found = others.found other n ∙ it.found;
        right = record {
          waits =
              subst (λ g. WaitsAs s.program old.code g (coroutine_in (is_running out other) taken it.slot.coroutine)) (sym (others.told other n))
              (subst (λ o. WaitsAs s.program old.code (generator_of other s) o) (sym (others.coroutines other n it.slot.coroutine)) it.right.waits);
          resume_point =
              subst (λ (g : Generator). StandsAt h.name_map s.loop.parts (named_in a s) other it.slot.resume_point g.resume_point) (sym (others.told other n))
              it.right.resume_point;
        };
      }

  -- What a task stands at changes, in code and in the machine, while its coroutine is taken out.
  pub stands_resume_point : (c : Context a) (old new : RunState X) (s : State a.Kept) (task : ℕ) (code : ResumePoint) (resume_point : plain.ResumePoint)
      → (h : Stands (Some task) c old s)
      → StandsAt h.name_map s.loop.parts (named_in a s) task code resume_point → new ≡ record old { slots = new.slots }
      → new.slots.items ≡ resume_point_at task code old.slots.items → task < next_task s.loop.parts
      → Stands (Some task) c new (stands resume_point task s)
  stands_resume_point c old new s task code resume_point h at_it frame items within =
      slots_change task (Some task) (Some task) c c.coroutine old new s now.generators h frame (record {
        slots = ap length items ∙ with_length task change old.slots.items;
        generators = set_length task it s;
        found = λ other n. ap (λ (xs : List Slot). slice_get xs other) items ∙ with_other task other change old.slots.items n;
        told = λ other n. set_other task other it s n;
        coroutines = λ other n own. refl;
      }) own
    where
      change : Slot → Slot
      change slot = record slot { resume_point = code }

      it : Generator
      it = record (generator_of task s) { resume_point = resume_point }

      now : State a.Kept
      now = stands resume_point task s

      inside : task < length s.generators
      inside = subst (λ n. task < n) (sym h.told) within

      own : lives s.loop.parts task ≡ true → HasSlot a (Some task) c.coroutine h.name_map old.code old.slots.items s task
          → HasSlot a (Some task) c.coroutine h.name_map old.code new.slots.items now task
      own l was = record {
        slot = change was.slot;
        found = ap (λ (xs : List Slot). slice_get xs task) items ∙ with_same task change old.slots.items was.slot was.found;
        right = record {
          waits =
              subst (λ g. WaitsAs s.program old.code g (coroutine_in (is_running (Some task) task) c.coroutine was.slot.coroutine))
              (sym (set_same task it s inside)) was.right.waits;
          resume_point =
              subst (λ (g : Generator). StandsAt h.name_map s.loop.parts (named_in a s) task code g.resume_point) (sym (set_same task it s inside)) at_it;
        };
      }

  -- The coroutine is put back.
  pub stands_back : (c : Context a) (old new : RunState X) (s : State a.Kept) (task : ℕ) (coroutine : Gen)
      → (h : Stands (Some task) (holding coroutine c) old s)
      → new ≡ record old { slots = new.slots }
      → new.slots.items ≡ put_back task coroutine old.slots.items → Stands None c new s
  stands_back c old new s task coroutine h frame items =
      slots_change task (Some task) None (holding coroutine c) c.coroutine old new s s.generators h frame (record {
        slots = ap length items ∙ with_length task change old.slots.items;
        generators = refl;
        found = λ other n. ap (λ (xs : List Slot). slice_get xs other) items ∙ with_other task other change old.slots.items n;
        told = λ other n. refl;
        coroutines = λ other n own. sym (in_slot task other n (Some coroutine) own);
      }) own
    where
      change : Slot → Slot
      change slot = record slot { coroutine = Some coroutine }

      own : lives s.loop.parts task ≡ true → HasSlot a (Some task) (Some coroutine) h.name_map old.code old.slots.items s task
          → HasSlot a None c.coroutine h.name_map old.code new.slots.items s task
      own l was = record {
        slot = change was.slot;
        found = ap (λ (xs : List Slot). slice_get xs task) items ∙ with_same task change old.slots.items was.slot was.found;
        right = record {
          waits =
              subst (λ b. WaitsAs s.program old.code (generator_of task s) (coroutine_in b (Some coroutine) was.slot.coroutine)) (runs_itself task)
              was.right.waits;
          resume_point = was.right.resume_point;
        };
      }

  -- A task that is done needs no coroutine.
  pub stands_over : (c : Context a) (body : RunState X) (s : State a.Kept) (task : ℕ) (coroutine : Gen)
      → (h : Stands (Some task) (holding coroutine c) body s) → lives s.loop.parts task ≡ false
      → Stands None c body s
  stands_over c body s task coroutine h done =
      slots_change task (Some task) None (holding coroutine c) c.coroutine body body s s.generators h refl (record {
        slots = refl;
        generators = refl;
        found = λ other n. refl;
        told = λ other n. refl;
        coroutines = λ other n own. sym (in_slot task other n (Some coroutine) own);
      }) (λ l was. absurd (false≢true (sym done ∙ l)))

  -- What a task that is done was resumed with doesn't matter.
  pub stands_dead : (c : Context a) (body : RunState X) (s : State a.Kept) (task : ℕ) (it : Generator) → Stands None c body s → lives s.loop.parts task ≡ false
      → Stands None c body (with_generator task it s)
  stands_dead c body s task it h done =
      slots_change task None None c c.coroutine body body s (with_generator task it s).generators h refl (record {
        slots = refl;
        generators = set_length task it s;
        found = λ other n. refl;
        told = λ other n. set_other task other it s n;
        coroutines = λ other n own. refl;
      }) (λ l was. absurd (false≢true (sym done ∙ l)))

  -- The coroutine that is taken out was resumed.
  pub stands_resumed : (c : Context a) (body : RunState X) (s : State a.Kept) (task : ℕ) (fresh : Bool) (input : Input) (before now : Gen)
      → Stands (Some task) (holding before c) body s → task < next_task s.loop.parts
      → (GenStandsFor s.program body.code (generator_of task s).coroutine (generator_of task s).arguments (generator_of task s).tape before
      → GenStandsFor s.program body.code (generator_of task s).coroutine (generator_of task s).arguments
      ((generator_of task s).tape ++ record { input = input; fresh = fresh } ∷ []) now)
      → Stands (Some task) (holding now c) body (resumed fresh task input s)
  stands_resumed c body s task fresh input before now h within goes =
      slots_change task (Some task) (Some task) (holding before c) (Some now) body body s after.generators h refl (record {
        slots = refl;
        generators = set_length task it s;
        found = λ other n. refl;
        told = λ other n. set_other task other it s n;
        coroutines = λ other n own. in_slot task other n (Some now) own ∙ sym (in_slot task other n (Some before) own);
      }) own
    where
      it : Generator
      it = record (generator_of task s) { tape = (generator_of task s).tape ++ record { input = input; fresh = fresh } ∷ [] }

      after : State a.Kept
      after = resumed fresh task input s

      inside : task < length s.generators
      inside = subst (λ n. task < n) (sym h.told) within

      own : lives s.loop.parts task ≡ true → HasSlot a (Some task) (Some before) h.name_map body.code body.slots.items s task
          → HasSlot a (Some task) (Some now) h.name_map body.code body.slots.items after task
      own l was = record {
        slot = was.slot;
        found = was.found;
        right = record {
          waits =
              subst (λ g. WaitsAs s.program body.code g (coroutine_in (is_running (Some task) task) (Some now) was.slot.coroutine))
              (sym (set_same task it s inside))
              (subst (λ b. WaitsAs s.program body.code it (coroutine_in b (Some now) was.slot.coroutine)) (sym (runs_itself task))
              (goes (subst (λ b. WaitsAs s.program body.code (generator_of task s) (coroutine_in b (Some before) was.slot.coroutine)) (runs_itself task)
              was.right.waits)));
          resume_point =
              subst (λ (g : Generator). StandsAt h.name_map s.loop.parts (named_in a s) task was.slot.resume_point g.resume_point)
              (sym (set_same task it s inside))
              was.right.resume_point;
        };
      }

  -- The coroutine that is taken out stands for the task's generator.
  pub stood : (c : Context a) (body : RunState X) (s : State a.Kept) (task : ℕ) (coroutine : Gen) → Stands (Some task) (holding coroutine c) body s
      → lives s.loop.parts task ≡ true
      → GenStandsFor s.program body.code (generator_of task s).coroutine (generator_of task s).arguments (generator_of task s).tape coroutine
  stood c body s task coroutine h l =
      let has = h.held task l in
      subst (λ b. WaitsAs s.program body.code (generator_of task s) (coroutine_in b (Some coroutine) has.slot.coroutine)) (runs_itself task) has.right.waits
