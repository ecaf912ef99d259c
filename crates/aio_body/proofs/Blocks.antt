-- The timeouts and the groups go on standing for the machine's.
use Rattle.std.proofs.Common.{◌≡◌, ℕ, ◌<◌, ◌||◌, ◌==◌, true, List, Option, Some, None, slice_get, ◌∙◌, refl, sym, ap, subst, arith}
use Rattle.std.specs.Option.{option_map, option_map_or}
use Rattle.std.proofs.lemmas.Bool.{ne_eqb}
use Rattle.std.proofs.lemmas.Option.{none-some}
use Rattle.model_loop.specs.Loop.{Group, Loop}
use Rattle.model_loop.specs.Owning.{OwnsFutures, is_plain, own_future, owner_of}
use Rattle.model_loop.specs.Futures.{next_future}
use Rattle.model_loop.specs.Parts.{Parts, Task}
use Rattle.model_loop.specs.Tasks.{future_of, next_task}
use Rattle.law_replies.proofs.Counts.{get_there}
use Rattle.law_steps.proofs.CancelSound.{plain_within}
use Rattle.aio_task.specs.Keeps.{NameMap, Extends, release}
use Rattle.aio_timeout.specs.declared.timeout.Timeout.{Timeout}
use Rattle.aio_timeout.specs.Kept.{AreTimeouts}
use Rattle.aio_timeout.proofs.Keeping.{timeouts_stay}
use Rattle.aio_group.specs.GoesOn.{PartsGoOn}
use Rattle.aio_group.specs.Held.{Held}
use Rattle.aio_group.specs.Stands.{IsLive, KeepsAt}
use Rattle.aio_group.proofs.Listing.{all_to}
use Rattle.aio_group.proofs.Standing.{groups_on}
use Rattle.aio_body.specs.Stands.{AreBlocks}

-- ---- tasks' own futures
own_made : (p : Parts) (task : ℕ) → task < next_task p → own_future p task ≡ Some (future_of p task)
own_made p task made = let it = get_there p.tasks task made in at (slice_get p.tasks task) it.0 it.1
  where
    at : (o : Option Task) (it : Task) → o ≡ Some it → option_map (λ (x : Task). x.future) o ≡ Some (option_map_or (λ (x : Task). x.future) o (next_future p))
    at None it e = absurd (cc)
    at (Some x) it e = refl

-- no timeout and no group changed
pub blocks_on : (t u : NameMap) (timeouts : List Timeout) (groups : List Held) (l m : Loop) → Extends l.parts t m.parts u → PartsGoOn l.parts m.parts
    → m.timeouts ≡ l.timeouts → m.groups ≡ l.groups → AreBlocks t timeouts groups l → AreBlocks u timeouts groups m
blocks_on t u timeouts groups l m extends on times these b = record {
  timeouts =
      subst (λ xs. AreTimeouts u m.parts timeouts xs) (sym times)
      (timeouts_stay t u l.parts m.parts timeouts l.timeouts extends.known extends.tags b.timeouts);
  groups =
      subst (λ (gs : List Group). (id : ℕ) → KeepsAt u m.parts (slice_get groups id) (slice_get gs id)) (sym these)
      (groups_on t u l.parts m.parts on extends.gone groups l.groups b.groups);
}

-- ---- a plain future is released, which is no task's own
own_other : (p : Parts) → OwnsFutures p → (id : ℕ) → is_plain p id ≡ true → (task : ℕ) → task < next_task p → future_of p task ≡ id → ⊥
own_other p owns id plain task made same =
    let own = own_made p task made in
    let is : owner_of p (future_of p task) ≡ Some task = (owns (future_of p task) task).1 own in
    none-some task (sym (plain_within p id plain).0 ∙ sym (ap (owner_of p) same) ∙ is)

live_released : (t : NameMap) (p : Parts) → OwnsFutures p → (id : ℕ) → is_plain p id ≡ true → (task : ℕ) → IsLive t p task → IsLive (release id t) p task
live_released t p owns id plain task is = record {
  made = is.made;
  future = is.future;
  there = ap (λ b. b || (future_of p task == id)) is.there ∙ ne_eqb (future_of p task) id (own_other p owns id plain task is.made);
}

group_released : (t : NameMap) (p : Parts) → OwnsFutures p → (id : ℕ) → is_plain p id ≡ true → (held : Option Held) (group : Option Group)
    → KeepsAt t p held group → KeepsAt (release id t) p held group
group_released t p owns id plain None None is = is
group_released t p owns id plain None (Some group) is = is
group_released t p owns id plain (Some held) None is = is
group_released t p owns id plain (Some held) (Some group) is = record {
  same = is.same;
  children = all_to (IsLive t p) (IsLive (release id t) p) held.children (live_released t p owns id plain) is.children;
  failed = all_to (IsLive t p) (IsLive (release id t) p) held.failed (live_released t p owns id plain) is.failed;
  faults = is.faults;
  early = is.early;
  late = is.late;
}

pub blocks_released : (t : NameMap) (timeouts : List Timeout) (groups : List Held) (l : Loop) (id : ℕ) → OwnsFutures l.parts
    → is_plain l.parts id ≡ true → AreBlocks t timeouts groups l → AreBlocks (release id t) timeouts groups l
blocks_released t timeouts groups l id owns plain b = record {
  timeouts = timeouts_stay t (release id t) l.parts l.parts timeouts l.timeouts (λ tag h. refl) (omega arith) b.timeouts;
  groups = λ other. group_released t l.parts owns id plain (slice_get groups other) (slice_get l.groups other) (b.groups other);
}
