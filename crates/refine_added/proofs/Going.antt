-- Calls of steps come to the loop's parts after them.
use Rattle.std.proofs.Common.{◌≡◌, ℕ, suc, ◌<◌, ◌≤◌, Bool, true, false, List, [], ◌∷◌, ◌++◌, Option, Some, None, length, map, slice_get, refl, sym, ap, subst, ◌∙◌, arith}
use Rattle.std.specs.Prelude.{if◌then◌else◌}
use Rattle.model_value.specs.Action.{Action}
use Rattle.model_value.specs.Value.{Outcome}
use Rattle.model_value.specs.declared.action.Action.TheVariants as action
use Rattle.model_loop.specs.Ledger.{ByExtra}
use Rattle.model_loop.specs.Loop.{Loop}
use Rattle.model_loop.specs.Tasks.{uncancel}
use Rattle.model_loop.specs.Parts.{Future, Many, Parts, Plain, profile_named}
use Rattle.model_machine.specs.Extra.{ExtraStep, MakesPlain, MakesMany, Settles, Releases, Registers, CallsSoon, CallsLater, Revokes, Cancels, Uncancels}
use Rattle.model_machine.specs.Extra.{made_by, made_by_all}
use Rattle.refine_parts.proofs.Appending.{extends_on, extends_same, extends_still, kept_soon}
use Rattle.refine_parts.proofs.Calls.{keeps_many, keeps_plain, keeps_uncancel, kept_register, kept_request, kept_settle}
use Rattle.refine_parts.proofs.Only.{make_name_map, uncancel_name_map}
use Rattle.refine_parts.proofs.Scheduling.{kept_later, keeps_revoked}
use Rattle.aio_ready.specs.Queue as queue
use Rattle.aio_ready.specs.Queue.{Queue}
use Rattle.aio_ready.specs.declared.handle.HandleName.TheVariants as name
use Rattle.aio_timer.specs.Schedule as schedule
use Rattle.aio_timer.specs.declared.live.TimerId.{TimerId}
use Rattle.aio_future.specs.Settled.{called, soon_at, soon_if_done, soon_until}
use Rattle.aio_cancel.specs.Awaitables.{Appended}
use Rattle.aio_task.specs.Keeps.{Becomes, ByTimer, Extends, Keeps, Kept, Known, Knows, NameMap}
use Rattle.aio_task.specs.View.{View, parts}
use Rattle.law_runs.specs.Allowed.{AreAllowed, IsAllowed, Owns}
use Rattle.refine_added.specs.Seen.{AreOlder, Goes, IsFramed, Sees, SeesAll, made}

-- ---- what stands before the bar
below_all : (actions : List Action) (q : Queue) → (queue.soon_all actions q).below ≡ q.below
below_all [] q = refl
below_all (action ∷ actions) q = below_all actions (queue.soon action q)

below_appended : (q r : Queue) → Appended q r → length r.below ≡ length q.below
below_appended q r a = ap (λ (x : Queue). length x.below) a.1 ∙ ap length (below_all a.0 q)

below_if_done : (id : ℕ) (it : Action) (futures : List Future) (q : Queue) → (soon_if_done id it futures q).below ≡ q.below
below_if_done id it futures q = at (slice_get futures id)
  where
    until : (o : Option Outcome) → (soon_until o it q).below ≡ q.below
    until (Some done) = refl
    until None = refl

    at : (o : Option Future) → (soon_at o it q).below ≡ q.below
    at None = refl
    at (Some future) = until future.outcome

below_cancelled : (id : TimerId) (b : Bool) (q : Queue)
    → length (if b then q else queue.cancelled (name.Timer id.number) q).below ≡ length q.below
below_cancelled id true q = refl
below_cancelled id false q = length-map _ q.below
  where
    length-map : {A B : Type 0} (f : A → B) (xs : List A) → length (map f xs) ≡ length xs
    length-map f [] = refl
    length-map f (x ∷ xs) = ap suc (length-map f xs)

-- ---- one after another
goes_on : (t : NameMap) (p : Parts) (v : View) (w : View) (q : Parts) (x : View) (r : Parts) → (first : Goes t p v w q) → Goes first.name_map q w x r
    → Goes t p v x r
goes_on t p v w q x r first next = record {
  name_map = next.name_map;
  keeps = next.keeps;
  extends = extends_on t first.name_map next.name_map p q r first.extends next.extends;
  below = next.below ∙ first.below;
  profile = next.profile ∙ first.profile;
  called = next.called ∙ first.called;
  running = next.running ∙ first.running;
}

-- where the view is this one
to_view : (t : NameMap) (p : Parts) (v w x : View) (q : Parts) → w ≡ x → Goes t p v x q → Goes t p v w q
to_view t p v w x q e g = subst (λ y. Goes t p v y q) (sym e) g

by_kept : (t : NameMap) (p : Parts) (v w : View) (q : Parts) → Kept t p w q → length w.queue.below ≡ length v.queue.below → IsFramed v w → Goes t p v w q
by_kept t p v w q k below frame = record {
  name_map = k.name_map;
  keeps = k.keeps;
  extends = k.extends;
  below = below;
  profile = ap (λ (y : View). y.profile) frame;
  called = ap (λ (y : View). y.called) frame;
  running = ap (λ (y : View). y.running) frame;
}

-- ---- a step
-- the profile stays
profile_stays : (step : ExtraStep) (l : Loop) → (made_by step l).profile ≡ l.profile
profile_stays MakesPlain l = refl
profile_stays (MakesMany members) l = refl
profile_stays (Settles future outcome) l = refl
profile_stays (Releases future) l = refl
profile_stays (Registers future key) l = refl
profile_stays (CallsSoon key) l = refl
profile_stays (CallsLater when key) l = refl
profile_stays (Revokes tag) l = refl
profile_stays (Cancels key future) l = refl
profile_stays (Uncancels key task) l = refl

module _ (known : ℕ → Known) (bound : ℕ) (own : Owns) where
  -- what is given up was known before
  abbrev IsOlder : ExtraStep → Type 0
  IsOlder step = AreOlder bound (step ∷ [])

  -- the name map knows it still
  pub record Knowing (t : NameMap) (p : Parts) : Type 0 where
    pub next : bound ≤ p.next_tag
    pub same : (tag : ℕ) → tag < bound → t.known tag ≡ known tag

  step_goes : (t : NameMap) (v w : View) (step : ExtraStep) (l : Loop) → Keeps t v l.parts → l.profile ≡ profile_named v.profile → Knowing t l.parts
      → IsAllowed own step l → IsOlder step → Sees known step v w → Goes t l.parts v w (made_by step l).parts
  step_goes t v w MakesPlain l k rules n may older e =
      to_view t l.parts v w (made Plain v) (made_by MakesPlain l).parts e
      (by_kept t l.parts v (made Plain v) (made_by MakesPlain l).parts
      (record { name_map = t; keeps = keeps_plain t v l.parts k; extends = make_name_map t Plain l.parts }) refl refl)
  step_goes t v w (MakesMany members) l k rules n may older e =
      to_view t l.parts v w (made (Many members false) v) (made_by (MakesMany members) l).parts e
      (by_kept t l.parts v (made (Many members false) v) (made_by (MakesMany members) l).parts
      (record { name_map = t; keeps = keeps_many t v l.parts k members may; extends = make_name_map t (Many members false) l.parts }) refl refl)
  step_goes t v w (Settles future outcome) l k rules n may older e =
      to_view t l.parts v w _ (made_by (Settles future outcome) l).parts e
      (by_kept t l.parts v _ (made_by (Settles future outcome) l).parts (kept_settle t v l.parts k future outcome)
      (ap length (below_all (called future v.futures) v.queue)) refl)
  step_goes t v w (Releases future) l k rules n may older e =
      to_view t l.parts v w v l.parts e
      (by_kept t l.parts v v l.parts (record { name_map = t; keeps = k; extends = extends_same t l.parts }) refl refl)
  step_goes t v w (Registers future key) l k rules n may older e =
      to_view t l.parts v w _ (made_by (Registers future key) l).parts e
      (by_kept t l.parts v _ (made_by (Registers future key) l).parts (kept_register t v l.parts k future (action.Extra key))
      (ap length (below_if_done future (action.Extra key) v.futures v.queue)) refl)
  step_goes t v w (CallsSoon key) l k rules n may older e =
      to_view t l.parts v w _ (made_by (CallsSoon key) l).parts e
      (by_kept t l.parts v _ (made_by (CallsSoon key) l).parts (kept_soon t v l.parts k (action.Extra key)).0 refl refl)
  step_goes t v w (CallsLater when key) l k rules n may older e =
      let kept = (kept_later t v l.parts k when (action.Extra key)).0 in
      to_view t l.parts v w _ (made_by (CallsLater when key) l).parts e (record {
        name_map = kept.name_map;
        keeps = kept.keeps;
        extends = kept.extends;
        below = refl;
        profile = refl;
        called = refl;
        running = refl;
      })
  step_goes t v w (Revokes tag) l k rules n may older e =
      let knows : Knows t l.parts tag (ByTimer e.0) = record {
        given = let b = n.next in let o = older.0 in omega (arith, b, o);
        known = n.same tag older.0 ∙ e.1;
      } in
      to_view t l.parts v w _ (made_by (Revokes tag) l).parts e.2 (record {
        name_map = t;
        keeps = keeps_revoked t v l.parts k tag e.0 knows;
        extends = extends_still t l.parts (made_by (Revokes tag) l).parts refl;
        below = below_cancelled e.0 (schedule.lives e.0 v.schedule.live) v.queue;
        profile = refl;
        called = refl;
        running = refl;
      })
  step_goes t v w (Cancels key future) l k rules n may older e =
      by_kept t l.parts v w (made_by (Cancels key future) l).parts (kept_request t v w l.parts k (ByExtra key) future e.0)
      (below_appended v.queue w.queue e.0.queue) e.1
  step_goes t v w (Uncancels key task) l k rules n may older e =
      by_kept t l.parts v w (made_by (Uncancels key task) l).parts
      (record {
        name_map = t;
        keeps = keeps_uncancel t v w l.parts k l.profile task
            (subst (λ profile. Becomes v w (uncancel profile task (parts v))) (sym rules) e.0);
        extends = uncancel_name_map t l.parts l.profile task;
      })
      (below_appended v.queue w.queue e.0.queue) e.1

  knowing_on : (t : NameMap) (p : Parts) (u : NameMap) (q : Parts) → Extends p t q u → Knowing t p → Knowing u q
  knowing_on t p u q e n = record {
    next = let a = n.next in let b = e.tags in omega (arith, a, b);
    same = λ tag h. e.known tag (let a = n.next in omega (arith, h, a)) ∙ n.same tag h;
  }

  older_first : (step : ExtraStep) (steps : List ExtraStep) → AreOlder bound (step ∷ steps) → IsOlder step × AreOlder bound steps
  older_first (Revokes tag) steps h = ((h.0, tt), h.1)
  older_first _ steps h = (tt, h)

  all_go : (steps : List ExtraStep) (t : NameMap) (v w : View) (l : Loop) → Keeps t v l.parts → l.profile ≡ profile_named v.profile
      → Knowing t l.parts → AreAllowed own steps l → AreOlder bound steps → SeesAll known steps v w → Goes t l.parts v w (made_by_all steps l).parts
  all_go [] t v w l k rules n may older e =
      to_view t l.parts v w v l.parts e
      (by_kept t l.parts v v l.parts (record { name_map = t; keeps = k; extends = extends_same t l.parts }) refl refl)
  all_go (step ∷ steps) t v w l k rules n may older e =
      let o = older_first step steps older in
      let first = step_goes t v e.0 step l k rules n may.0 o.0 e.1 in
      goes_on t l.parts v e.0 (made_by step l).parts w (made_by_all steps (made_by step l)).parts first
      (all_go steps first.name_map e.0 w (made_by step l) first.keeps
      (profile_stays step l ∙ rules ∙ ap profile_named (sym first.profile)) (knowing_on t l.parts first.name_map (made_by step l).parts first.extends n) may.1 o.1 e.2)

pub steps_go : (t : NameMap) (v w : View) (own : Owns) (l : Loop) (steps : List ExtraStep) → Keeps t v l.parts
    → l.profile ≡ profile_named v.profile → AreAllowed own steps l → AreOlder l.parts.next_tag steps → SeesAll t.known steps v w → Goes t l.parts v w (made_by_all steps l).parts
steps_go t v w own l steps k rules may older e =
    all_go t.known l.parts.next_tag own steps t v w l k rules (record { next = omega arith; same = λ tag h. refl }) may older e
