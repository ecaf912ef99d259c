-- What is stood for goes on: through operations of the loop, and changes of what a task stands at.
use Rattle.std.proofs.Common.{◌≡◌, ℕ, ◌≤◌, ◌⊎◌, true, List, Option, Some, None, length, ◌∙◌, refl, sym, ap, subst, inl, inr, arith}
use Rattle.model_value.specs.Number.{most}
use Rattle.model_tree.specs.Syntax.{Program}
use Rattle.model_loop.specs.Loop.{Loop}
use Rattle.model_loop.specs.Owning.{is_plain}
use Rattle.model_loop.specs.Parts.{Parts, Profile, profile_named}
use Rattle.model_loop.specs.Tasks.{cancelling, lives, next_task, waiter_of}
use Rattle.model_machine.specs.State as plain
use Rattle.model_machine.specs.State.{State, generator_of, in_loop, with_loop}
use Rattle.aio_timer.specs.declared.live.TimerId.{TimerId}
use Rattle.aio_task.specs.Keeps.{NameMap, Extends, Keeps, Kept, Knows, ByTimer}
use Rattle.aio_task.specs.View.{View}
use Rattle.aio_timeout.specs.declared.timeout.Timeout.{Timeout}
use Rattle.aio_extra.specs.Added.{Added, GoesBeside, named_in, owned_by}
use Rattle.aio_group.specs.GoesOn.{PartsGoOn}
use Rattle.aio_group.specs.Held.{Held}
use Rattle.aio_body.specs.declared.run_state.RunState.{RunState}
use Rattle.aio_body.specs.declared.resume_point.ResumePoint.{ResumePoint}
use Rattle.aio_body.specs.declared.resume_point.ResumePoint.TheVariants.{Connecting, Sleeping}
use Rattle.aio_body.specs.Stands.{AreBlocks, Context, IsRuled, Stands, IsOwnSleep, StandsAt}
use Rattle.aio_body.proofs.Blocks.{blocks_on}
use Rattle.aio_body.proofs.Leaving.{IsNew, Leaves}

-- what a tag is known by stays
pub knows_on : (t u : NameMap) (p q : Parts) (tag : ℕ) (timer : TimerId) → Extends p t q u → Knows t p tag (ByTimer timer) → Knows u q tag (ByTimer timer)
knows_on t u p q tag timer e k = record {
  given = omega (arith, k.given, e.tags);
  known = e.known tag k.given ∙ k.known;
}

-- that a task waits for this is not new to the futures of sleeps
abbrev pub Spares : Option (ℕ × ℕ) → Parts → (ℕ → Type 0) → Type 0
Spares new p named = (task id : ℕ) → IsNew new task id → (sleeper : Option ℕ) → IsOwnSleep p named sleeper id → sleeper ≡ Some task

pub spares_none : (p : Parts) (named : ℕ → Type 0) → Spares None p named
spares_none p named task id e sleeper own = absurd e

-- what the future of a sleep was it stays, where plain futures stay so, and nobody comes to wait for it
pub own_by : (p q : Parts) (named : ℕ → Type 0) (sleeper : Option ℕ) (id : ℕ) → ((other : ℕ) → is_plain p other ≡ true → is_plain q other ≡ true)
    → ((task : ℕ) → waiter_of q task ≡ Some id → (waiter_of p task ≡ Some id) ⊎ (sleeper ≡ Some task))
    → IsOwnSleep p named sleeper id → IsOwnSleep q named sleeper id
own_by p q named sleeper id plains waits own = record {
  plain = plains id own.plain;
  unnamed = own.unnamed;
  alone = λ task e. at task (waits task e);
}
  where
    at : (task : ℕ) → (waiter_of p task ≡ Some id) ⊎ (sleeper ≡ Some task) → sleeper ≡ Some task
    at task (inl e) = own.alone task e
    at task (inr same) = same

pub own_on : (new : Option (ℕ × ℕ)) (p q : Parts) (named : ℕ → Type 0) (sleeper : Option ℕ) (id : ℕ) → Leaves new p q → Spares new p named
    → IsOwnSleep p named sleeper id → IsOwnSleep q named sleeper id
own_on new p q named sleeper id leaves spares own = own_by p q named sleeper id leaves.plain (λ task e. at task (leaves.waits task id e)) own
  where
    at : (task : ℕ) → (waiter_of p task ≡ Some id) ⊎ IsNew new task id → (waiter_of p task ≡ Some id) ⊎ (sleeper ≡ Some task)
    at task (inl e) = inl e
    at task (inr e) = inr (spares task id e sleeper own)

-- what a task stands at goes on, where what is known of timers does, and so the futures of sleeps
pub stands_at_by : (t u : NameMap) (p q : Parts) (named names : ℕ → Type 0) (task : ℕ) (code : ResumePoint) (resume_point : plain.ResumePoint)
    → ((tag : ℕ) (timer : TimerId) → Knows t p tag (ByTimer timer) → Knows u q tag (ByTimer timer))
    → ((id : ℕ) → IsOwnSleep p named (Some task) id → IsOwnSleep q names (Some task) id)
    → StandsAt t p named task code resume_point → StandsAt u q names task code resume_point
stands_at_by t u p q named names task (Sleeping timer future) (plain.Sleeping tag) knows own h = (knows tag timer h.0, own future h.1)
stands_at_by t u p q named names task (Connecting conn future) (plain.Connecting id) knows own h = (h.0, own future h.1)
stands_at_by t u p q named names task _ _ knows own h = h

-- what is added stands beside what an operation leaves
pub goes_beside : (owned : ℕ → Type 0) (t u : NameMap) (p q : Parts) → Extends p t q u → ((id : ℕ) → is_plain p id ≡ true → is_plain q id ≡ true)
    → PartsGoOn p q → GoesBeside owned t p u q
goes_beside owned t u p q e plain on = record {
  known = e.known;
  tags = e.tags;
  gone = λ id own. ap (λ f. f id) e.gone;
  futures = on.futures;
  plain = plain;
  owners = on.owners;
}

-- the timeouts, the groups and the profile stay
abbrev pub SameBlocks : (l m : Loop) → Type 0
SameBlocks l m = (m.timeouts ≡ l.timeouts) × ((m.groups ≡ l.groups) × (m.profile ≡ l.profile))

-- what runs by a profile goes on so
pub ruled_on : (program : Program) (number other : ℕ) (profile now : Profile) → other ≡ number → now ≡ profile → IsRuled program number profile
    → IsRuled program other now
ruled_on program number other profile now same still is = record {
  named = same ∙ is.named;
  rules = still ∙ is.rules ∙ ap profile_named (sym same);
}

-- Parts, blocks and what is added stand for a state by the name map u, after one for which they stood by the name map t; no task is new.
pub record GoesAs {X : Type 0} (a : Added X) (t u : NameMap) (new : RunState X) (s now : State a.Kept) : Type 0 where
  pub keeps : Keeps u new.parts now.loop.parts
  pub blocks : AreBlocks u new.timeouts new.groups now.loop
  pub profile : now.loop.profile ≡ s.loop.profile
  pub tasks : next_task now.loop.parts ≡ next_task s.loop.parts
  pub living : (task : ℕ) → lives now.loop.parts task ≡ true → lives s.loop.parts task ≡ true
  pub knows : (tag : ℕ) (timer : TimerId) → Knows t s.loop.parts tag (ByTimer timer) → Knows u now.loop.parts tag (ByTimer timer)
  pub own : (sleeper : Option ℕ) (id : ℕ) → IsOwnSleep s.loop.parts (named_in a s) sleeper id
      → IsOwnSleep now.loop.parts (named_in a now) sleeper id
  pub gone : (id : ℕ) → u.gone id ≡ true → IsOwnSleep now.loop.parts (named_in a now) None id
  pub time : now.loop.parts.time ≤ most
  pub counts : (task : ℕ) → cancelling now.loop.parts task ≤ most
  pub extra : a.stands u now.loop.parts new.extra now.extra

module _ {X : Type 0} {a : Added X} where
  -- Nothing changes but parts, timeouts, groups and what is added.
  unfoldable pub parts_change : (out : Option ℕ) (c : Context a) (old : RunState X) (s : State a.Kept) (u : NameMap) (v : View) (timeouts : List Timeout)
      (groups : List Held) (x : X) (m : Loop) (it : a.Kept) (left bar : ℕ) (h : Stands out c old s)
      → GoesAs a h.name_map u (record old { parts = v; timeouts = timeouts; groups = groups; extra = x }) s (record s { loop = m; extra = it })
      → length v.queue.below ≡ left → u.bar ≡ bar → v.profile ≡ old.parts.profile
      → Stands out (record c { left = left; bar = bar }) (record old { parts = v; timeouts = timeouts; groups = groups; extra = x })
      (record s { loop = m; extra = it })
  parts_change out c old s u v timeouts groups x m it left bar h goes below at_bar same = record {
    name_map = u;
    code = h.code;
    profile = ruled_on s.program old.parts.profile v.profile s.loop.profile m.profile same goes.profile h.profile;
    keeps = goes.keeps;
    left = below;
    bar = at_bar;
    blocks = goes.blocks;
    made = h.made ∙ sym goes.tasks;
    told = h.told ∙ sym goes.tasks;
    few = h.few;
    held = λ task l. let has = h.held task (goes.living task l) in record {
      slot = has.slot;
      found = has.found;
      right = record {
        waits = has.right.waits;
        resume_point =
            stands_at_by h.name_map u s.loop.parts m.parts (named_in a s) (named_in a (record s { loop = m; extra = it })) task has.slot.resume_point
            (generator_of task s).resume_point goes.knows (goes.own (Some task)) has.right.resume_point;
      };
    };
    gone = goes.gone;
    futures = h.futures;
    few_futures = h.few_futures;
    main_done = h.main_done;
    transports = h.transports;
    time = goes.time;
    counts = goes.counts;
    events = h.events;
    rest = h.rest;
    extra = goes.extra;
    count = h.count;
  }

  -- Steps of the loop, and of what is added, after which it stands for what it keeps then.
  unfoldable pub stands_after : (new : Option (ℕ × ℕ)) (out : Option ℕ) (c : Context a) (old : RunState X) (s : State a.Kept) (v : View)
      (timeouts : List Timeout)
      (groups : List Held) (x : X) (m : Loop) (it : a.Kept) (left : ℕ) (h : Stands out c old s) (kept : Kept h.name_map s.loop.parts v m.parts)
      → Leaves new s.loop.parts m.parts → AreBlocks kept.name_map timeouts groups m
      → ((sleeper : Option ℕ) (id : ℕ) → IsOwnSleep s.loop.parts (named_in a s) sleeper id
      → IsOwnSleep m.parts (named_in a (record s { loop = m; extra = it })) sleeper id)
      → a.stands kept.name_map m.parts x it → length v.queue.below ≡ left → v.profile ≡ old.parts.profile → m.profile ≡ s.loop.profile
      → Stands out (record c { left = left }) (record old { parts = v; timeouts = timeouts; groups = groups; extra = x })
      (record s { loop = m; extra = it })
  stands_after new out c old s v timeouts groups x m it left h kept leaves blocks own extra below same still =
      parts_change out c old s kept.name_map v timeouts groups x m it left c.bar h (record {
        keeps = kept.keeps;
        blocks = blocks;
        profile = still;
        tasks = leaves.tasks;
        living = leaves.living;
        knows = λ tag timer. knows_on h.name_map kept.name_map s.loop.parts m.parts tag timer kept.extends;
        own = own;
        gone = λ id e. own None id (h.gone id (sym (ap (λ f. f id) kept.extends.gone) ∙ e));
        time = subst (λ n. n ≤ most) (sym leaves.time) h.time;
        counts = leaves.counts h.counts;
        extra = extra;
      }) below (kept.extends.bar ∙ h.bar) same

  -- Steps of the loop alone, after which timeouts and groups stand for its own, by whatever the code made of them.
  pub stands_kept : (new : Option (ℕ × ℕ)) (out : Option ℕ) (c : Context a) (old : RunState X) (s : State a.Kept) (v : View) (timeouts : List Timeout)
      (groups : List Held) (m : Loop) (left : ℕ) (h : Stands out c old s) (kept : Kept h.name_map s.loop.parts v m.parts)
      → Leaves new s.loop.parts m.parts → Spares new s.loop.parts (named_in a s) → AreBlocks kept.name_map timeouts groups m
      → length v.queue.below ≡ left → v.profile ≡ old.parts.profile → m.profile ≡ s.loop.profile
      → Stands out (record c { left = left }) (record old { parts = v; timeouts = timeouts; groups = groups }) (with_loop m s)
  stands_kept new out c old s v timeouts groups m left h kept leaves spares blocks below same still =
      stands_after new out c old s v timeouts groups old.extra m s.extra left h kept leaves blocks
      (λ sleeper id. own_on new s.loop.parts m.parts (named_in a s) sleeper id leaves spares)
      (a.goes_on h.name_map kept.name_map s.loop.parts m.parts old.extra s.extra h.extra
      (goes_beside (owned_by a s.extra) h.name_map kept.name_map s.loop.parts m.parts kept.extends leaves.plain leaves.goes_on)) below same still

  -- An operation on the parts alone, whose view is `v` then, with so many handles before the bar.
  pub stands_by : (new : Option (ℕ × ℕ)) (out : Option ℕ) (c : Context a) (old : RunState X) (s : State a.Kept) (v : View) (change : Loop → Loop)
      → (h : Stands out c old s) → Kept h.name_map s.loop.parts v (change s.loop).parts → Leaves new s.loop.parts (change s.loop).parts
      → Spares new s.loop.parts (named_in a s) → SameBlocks s.loop (change s.loop) → (left : ℕ) → length v.queue.below ≡ left
      → v.profile ≡ old.parts.profile
      → Stands out (record c { left = left }) (record old { parts = v }) (in_loop change s)
  stands_by new out c old s v change h kept leaves spares same left below profile =
      stands_kept new out c old s v old.timeouts old.groups (change s.loop) left h kept leaves spares
      (blocks_on h.name_map kept.name_map old.timeouts old.groups s.loop (change s.loop) kept.extends leaves.goes_on same.0 same.1.0 h.blocks) below profile
      same.1.1

  -- It stands by the name map that the parts stand by then.
  pub by_name_map : (new : Option (ℕ × ℕ)) (out : Option ℕ) (c : Context a) (old : RunState X) (s : State a.Kept) (v : View) (change : Loop → Loop)
      (h : Stands out c old s) (kept : Kept h.name_map s.loop.parts v (change s.loop).parts) (leaves : Leaves new s.loop.parts (change s.loop).parts)
      (spares : Spares new s.loop.parts (named_in a s)) (same : SameBlocks s.loop (change s.loop)) (left : ℕ) (below : length v.queue.below ≡ left)
      (profile : v.profile ≡ old.parts.profile)
      → (stands_by new out c old s v change h kept leaves spares same left below profile).name_map ≡ kept.name_map
  unfolding stands_by stands_kept stands_after parts_change
  by_name_map new out c old s v change h kept leaves spares same left below profile = refl

  -- with as many handles before the bar as the view has
  pub stands_left : (new : Option (ℕ × ℕ)) (out : Option ℕ) (c : Context a) (old : RunState X) (s : State a.Kept) (v : View) (change : Loop → Loop)
      → (h : Stands out c old s) → Kept h.name_map s.loop.parts v (change s.loop).parts → Leaves new s.loop.parts (change s.loop).parts
      → Spares new s.loop.parts (named_in a s) → SameBlocks s.loop (change s.loop) → v.profile ≡ old.parts.profile
      → Stands out (record c { left = length v.queue.below }) (record old { parts = v }) (in_loop change s)
  stands_left new out c old s v change h kept leaves spares same profile =
      stands_by new out c old s v change h kept leaves spares same (length v.queue.below) refl profile

  -- where those stay as many
  pub stands_on : (new : Option (ℕ × ℕ)) (out : Option ℕ) (c : Context a) (old : RunState X) (s : State a.Kept) (v : View) (change : Loop → Loop)
      → (h : Stands out c old s) → Kept h.name_map s.loop.parts v (change s.loop).parts → Leaves new s.loop.parts (change s.loop).parts
      → Spares new s.loop.parts (named_in a s) → SameBlocks s.loop (change s.loop) → length v.queue.below ≡ length old.parts.queue.below
      → v.profile ≡ old.parts.profile
      → Stands out c (record old { parts = v }) (in_loop change s)
  stands_on new out c old s v change h kept leaves spares same below profile =
      stands_by new out c old s v change h kept leaves spares same c.left (below ∙ h.left) profile
