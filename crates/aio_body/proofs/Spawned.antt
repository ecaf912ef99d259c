-- A task that is made: with its slot, and with what it runs.
use Rattle.std.proofs.Common.{◌≡◌, ℕ, ◌+◌, ◌^◌, ◌<◌, ◌≤◌, ◌⊎◌, true, false, List, [], ◌∷◌, ◌++◌, Option, Some, None, length, length-append, slice_get, ◌∙◌}
use Rattle.std.proofs.Common.{refl, sym, ap, subst, inl, inr, arith}
use Rattle.std.specs.Option.{option_map_or}
use Rattle.std.proofs.lemmas.Bool.{cases_eq}
use Rattle.model_value.specs.Number.{most}
use Rattle.model_value.specs.Value.{Value}
use Rattle.model_loop.specs.Futures.{next_future}
use Rattle.model_loop.specs.Loop.{Loop}
use Rattle.model_loop.specs.Owning.{is_plain}
use Rattle.model_loop.specs.Parts.{Parts, Task}
use Rattle.model_loop.specs.Tasks.{cancelling, lives, next_task, spawn, waiter_of}
use Rattle.model_loop.specs.Ways.{is_running}
use Rattle.model_machine.specs.State as plain
use Rattle.model_machine.specs.State.{Generator, State, generator, generator_of, in_loop, with_coroutine}
use Rattle.law_cancel.proofs.Lookups.{get-push_last, get-push_other}
use Rattle.law_turns.specs.After.{IsAfter}
use Rattle.law_turns.proofs.Made.{spawn_after}
use Rattle.law_replies.proofs.Counts.{lives_within}
use Rattle.law_replies.proofs.Tapes.{push_last, push_within}
use Rattle.refine_parts.proofs.Waiting.{before_spawn}
use Rattle.aio_task.specs.Keeps.{Kept}
use Rattle.aio_task.specs.View.{View}
use Rattle.aio_group.specs.GoesOn.{PartsGoOn}
use Rattle.aio_group.specs.Held.{Held}
use Rattle.aio_group.proofs.Going.{spawn_on}
use Rattle.aio_extra.specs.Added.{Added, named_in, owned_by}
use Rattle.aio_body.specs.Slots.{HoldsMore}
use Rattle.aio_body.specs.Stands.{AreBlocks, HasSlot, IsOwnSleep, Context, Stands, StandsAt, WaitsAs, coroutine_in}
use Rattle.aio_body.specs.declared.run_state.RunState.{RunState}
use Rattle.aio_body.specs.declared.resume_point.Slot.{Slot}
use Rattle.aio_body.proofs.Lasting.{goes_beside, knows_on, own_by, ruled_on, stands_at_by}
use Rattle.aio_body.proofs.Left.{AreOwnMade, any, living_made}

-- what an operation leaves that makes a task
pub record LeavesMore (p q : Parts) : Type 0 where
  pub tasks : next_task q ≡ next_task p + 1
  pub living : (task : ℕ) → lives q task ≡ true → (lives p task ≡ true) ⊎ (task ≡ next_task p)
  pub plain : (id : ℕ) → is_plain p id ≡ true → is_plain q id ≡ true
  pub waits : (task id : ℕ) → waiter_of q task ≡ Some id → waiter_of p task ≡ Some id
  pub time : q.time ≡ p.time
  pub counts : ((task : ℕ) → cancelling p task ≤ most) → (task : ℕ) → cancelling q task ≤ most
  pub goes_on : PartsGoOn p q

abbrev count_at : Option Task → ℕ
count_at o = option_map_or (λ (x : Task). x.cancels) o 0

pub leaves_spawn : (p : Parts) → AreOwnMade p → LeavesMore p (spawn p)
leaves_spawn p made = record {
  tasks = length-append p.tasks (it ∷ []);
  living = λ task l. at task l (cases_eq task (next_task p)) (lives_within (spawn p) task l);
  plain = a.plain;
  waits = λ task id e. (before_spawn p).before task id e;
  time = refl;
  counts = λ h task. count task (h task) (cases_eq task (next_task p));
  goes_on = spawn_on p;
}
  where
    it : Task
    it = record { future = next_future p; waiter = None; cancels = 0; must_cancel = false }

    a : IsAfter any true None p (spawn p)
    a = spawn_after any None p

    at : (task : ℕ) → lives (spawn p) task ≡ true → (task ≡ next_task p) ⊎ (task ≡ next_task p → ⊥) → task < next_task (spawn p)
        → (lives p task ≡ true) ⊎ (task ≡ next_task p)
    at task l (inl new) within = inr new
    at task l (inr n) within =
        let more = length-append p.tasks (it ∷ []) in
        inl (living_made true p (spawn p) a made task (omega (arith, n, within, more)) l)

    count : (task : ℕ) → cancelling p task ≤ most → (task ≡ next_task p) ⊎ (task ≡ next_task p → ⊥) → cancelling (spawn p) task ≤ most
    count task h (inl new) =
        subst (λ o. count_at o ≤ most) (sym (ap (slice_get (spawn p).tasks) new ∙ get-push_last p.tasks it)) (omega arith)
    count task h (inr n) = subst (λ o. count_at o ≤ most) (sym (get-push_other p.tasks it task n)) h

module _ {X : Type 0} {a : Added X} where
  pub stands_made : (out : Option ℕ) (c : Context a) (old held : RunState X) (s : State a.Kept) (v : View) (groups : List Held) (change : Loop → Loop)
      (coroutine : ℕ) (arguments : List Value) (h : Stands out c old s) (kept : Kept h.name_map s.loop.parts v (change s.loop).parts)
      → LeavesMore s.loop.parts (change s.loop).parts → AreBlocks kept.name_map old.timeouts groups (change s.loop)
      → length v.queue.below ≡ length old.parts.queue.below → HoldsMore coroutine arguments old held → length old.slots.items + 1 < 2 ^ 32
      → v.profile ≡ old.parts.profile → (change s.loop).profile ≡ s.loop.profile → is_running out (next_task s.loop.parts) ≡ false
      → Stands out c (record held { parts = v; groups = groups }) (with_coroutine coroutine arguments (in_loop change s))
  stands_made out c old held s v groups change coroutine arguments h kept more blocks below holds few profile still other =
      subst (λ (b : RunState X). Stands out c (record b { parts = v; groups = groups }) now) (sym holds.frame) (record {
        name_map = kept.name_map;
        code = h.code;
        profile = ruled_on s.program old.parts.profile v.profile s.loop.profile (change s.loop).profile profile still h.profile;
        keeps = kept.keeps;
        left = below ∙ h.left;
        bar = kept.extends.bar ∙ h.bar;
        blocks = blocks;
        made = ap length holds.slots ∙ length-append old.slots.items (holds.slot ∷ []) ∙ ap (λ n. n + 1) h.made ∙ sym more.tasks;
        told = length-append s.generators (it ∷ []) ∙ ap (λ n. n + 1) h.told ∙ sym more.tasks;
        few = let l = ap length holds.slots ∙ length-append old.slots.items (holds.slot ∷ []) in omega (arith, l, few);
        held = λ task l. has task (more.living task l);
        gone = λ id e. own None id (h.gone id (sym (ap (λ f. f id) kept.extends.gone) ∙ e));
        futures = h.futures;
        few_futures = h.few_futures;
        main_done = h.main_done;
        transports = h.transports;
        time = subst (λ n. n ≤ most) (sym more.time) h.time;
        counts = more.counts h.counts;
        events = h.events;
        rest = h.rest;
        extra =
            a.goes_on h.name_map kept.name_map p q old.extra s.extra h.extra
            (goes_beside (owned_by a s.extra) h.name_map kept.name_map p q kept.extends more.plain more.goes_on);
        count = h.count;
      })
    where
      p : Parts
      p = s.loop.parts

      q : Parts
      q = (change s.loop).parts

      it : Generator
      it = generator coroutine arguments

      now : State a.Kept
      now = with_coroutine coroutine arguments (in_loop change s)

      own : (sleeper : Option ℕ) (id : ℕ) → IsOwnSleep p (named_in a s) sleeper id → IsOwnSleep q (named_in a s) sleeper id
      own sleeper id is = own_by p q (named_in a s) sleeper id more.plain (λ task w. inl (more.waits task id w)) is

      has : (task : ℕ) → (lives p task ≡ true) ⊎ (task ≡ next_task p) → HasSlot a out c.coroutine kept.name_map old.code held.slots.items now task
      has task (inl l) = record {
        slot = one.slot;
        found = ap (λ (xs : List Slot). slice_get xs task) holds.slots
            ∙ get-push_other old.slots.items holds.slot task (λ e. absurd (omega (arith, e, within, made))) ∙ one.found;
        right = record {
          waits = subst (λ g. WaitsAs s.program old.code g (coroutine_in (is_running out task) c.coroutine one.slot.coroutine)) (sym same) one.right.waits;
          resume_point =
              subst (λ (g : Generator). StandsAt kept.name_map q (named_in a s) task one.slot.resume_point g.resume_point) (sym same)
              (stands_at_by h.name_map kept.name_map p q (named_in a s) (named_in a s) task one.slot.resume_point (generator_of task s).resume_point
              (λ tag timer. knows_on h.name_map kept.name_map p q tag timer kept.extends) (own (Some task)) one.right.resume_point);
        };
      }
        where
          one : HasSlot a out c.coroutine h.name_map old.code old.slots.items s task
          one = h.held task l

          within : task < next_task p
          within = lives_within p task l

          made : length old.slots.items ≡ next_task p
          made = h.made

          same : generator_of task now ≡ generator_of task s
          same = push_within s.generators it task (generator 0 []) (subst (λ n. task < n) (sym h.told) within)
      has task (inr new) =
          subst (λ k. HasSlot a out c.coroutine kept.name_map old.code held.slots.items now k) (sym new) (record {
            slot = holds.slot;
            found =
                ap (λ (xs : List Slot). slice_get xs (next_task p)) holds.slots
                ∙ subst (λ k. slice_get (old.slots.items ++ holds.slot ∷ []) k ≡ Some holds.slot) h.made (get-push_last old.slots.items holds.slot);
            right = record {
              waits =
                  subst (λ b. WaitsAs s.program old.code (generator_of (next_task p) now) (coroutine_in b c.coroutine holds.slot.coroutine)) (sym other)
                  (subst (λ g. WaitsAs s.program old.code g holds.slot.coroutine) (sym last) (holds.waits s.program h.code));
              resume_point =
                  subst (λ (g : Generator). StandsAt kept.name_map q (named_in a s) (next_task p) holds.slot.resume_point g.resume_point) (sym last)
                  (subst (λ resume_point. StandsAt kept.name_map q (named_in a s) (next_task p) resume_point plain.Asked) (sym holds.resume_point) tt);
            };
          })
        where
          last : generator_of (next_task p) now ≡ it
          last =
              subst (λ k. generator_of k now ≡ it) h.told
              (push_last s.generators it (generator 0 []))
