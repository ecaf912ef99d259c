-- Each change keeps what the loop's parts in code stand for, and so does a whole way.
use Rattle.std.proofs.Common.{◌≡◌, ℕ, true, List, [], ◌∷◌, refl, ap, ◌∙◌}
use Rattle.model_loop.specs.Owning.{is_plain}
use Rattle.model_loop.specs.Parts.{Parts, Plain}
use Rattle.model_stream.specs.Doing.{Change, MakeFuture, CallSoon, Settle}
use Rattle.model_machine.specs.Does.{changed}
use Rattle.refine_parts.proofs.Appending.{extends_on, kept_same, kept_soon}
use Rattle.refine_parts.proofs.Calls.{keeps_plain, kept_settle}
use Rattle.refine_parts.proofs.Only.{make_name_map}
use Rattle.refine_parts.proofs.Telling as telling
use Rattle.law_steps.proofs.CancelSound.{plain_within}
use Rattle.aio_exchange.specs.Ways.{Move, Did, Heard, changed_on}
use Rattle.aio_change.specs.Owned.{IsOwn}
use Rattle.aio_change.specs.Seen.{seen_changed}
use Rattle.aio_future.specs.Settled.{called}
use Rattle.aio_ready.specs.Queue.{Queue, soon, soon_all}
use Rattle.model_value.specs.Action.{Action}
use Rattle.aio_task.specs.Keeps.{Keeps, Kept, NameMap}
use Rattle.aio_task.specs.View.{View}
use Rattle.refine_streams.specs.Beside.{StaysBeside}

change_kept : (t : NameMap) (v : View) (p : Parts) (it : Change) → Keeps t v p → Kept t p (seen_changed it v) (changed it p)
change_kept t v p MakeFuture k = record { name_map = t; keeps = keeps_plain t v p k; extends = make_name_map t Plain p }
change_kept t v p (CallSoon action) k = (kept_soon t v p k action).0
change_kept t v p (Settle future outcome) k = kept_settle t v p k future outcome

pub way_kept : (t : NameMap) (v : View) (p : Parts) (way : List Move) → Keeps t v p
    → Kept t p (changed_on seen_changed way v) (changed_on changed way p)
way_kept t v p [] k = kept_same k
way_kept t v p (Heard call answer ∷ way) k = way_kept t v p way k
way_kept t v p (Did it ∷ way) k =
    let first = change_kept t v p it k in
    let others = way_kept first.name_map (seen_changed it v) (changed it p) way first.keeps in
    record {
      name_map = others.name_map;
      keeps = others.keeps;
      extends =
          extends_on t first.name_map others.name_map p (changed it p) (changed_on changed way (changed it p)) first.extends others.extends;
    }

-- ---- what stays beside
below_soon_all : (actions : List Action) (q : Queue) → (soon_all actions q).below ≡ q.below
below_soon_all [] q = refl
below_soon_all (it ∷ actions) q = below_soon_all actions (soon it q)

change_beside : (it : Change) (v : View) → StaysBeside v (seen_changed it v)
change_beside MakeFuture v = record { frame = refl; below = refl }
change_beside (CallSoon action) v = record { frame = refl; below = refl }
change_beside (Settle future outcome) v = record { frame = refl; below = below_soon_all (called future v.futures) v.queue }

pub way_beside : (v : View) (way : List Move) → StaysBeside v (changed_on seen_changed way v)
way_beside v [] = record { frame = refl; below = refl }
way_beside v (Heard call answer ∷ way) = way_beside v way
way_beside v (Did it ∷ way) =
    let first = change_beside it v in
    let others = way_beside (seen_changed it v) way in
    let new = changed_on seen_changed way (seen_changed it v) in
    record {
      frame = others.frame ∙ ap (λ (x : View). record x { queue = new.queue; futures = new.futures }) first.frame;
      below = others.below ∙ first.below;
    }

-- ---- futures that are no task's
pub plain_own : (t : NameMap) (v : View) (p : Parts) (future : ℕ) → Keeps t v p → is_plain p future ≡ true → IsOwn v future
plain_own t v p future k plain = telling.owner_kept t v p k future (plain_within p future plain).0
