-- The handle that a timeout keeps: it goes on being the machine's, and is no step of a task.
use Rattle.std.proofs.Common.{◌≡◌, ℕ, ◌+◌, ◌-◌, ◌<◌, ◌≤◌, Bool, true, false, ◌||◌, [], ◌∷◌, ◌++◌, Option, Some, None, slice_get, slice_set, refl, ap, sym}
use Rattle.std.proofs.Common.{subst, ◌∙◌, arith, append_assoc, if◌then◌else◌}
use Rattle.std.specs.List.{list_any}
use Rattle.std.specs.Option.{option_map_or}
use Rattle.std.proofs.lemmas.Bool.{le-leb, lt-leb, and_right}
use Rattle.std.proofs.lemmas.List.Folds.{list_any-append}
use Rattle.model_value.specs.declared.action.Action.TheVariants.{Fires}
use Rattle.model_loop.specs.Parts.{Task, Parts, Profile}
use Rattle.model_loop.specs.Handles.{soon, later, revoke}
use Rattle.model_loop.specs.Tasks.{must_still_cancel, uncancel}
use Rattle.model_loop.specs.Timeouts.{give_up}
use Rattle.aio_ready.specs.declared.handle.Handle.{Handle}
use Rattle.aio_ready.specs.declared.handle.HandleId.{HandleId}
use Rattle.aio_ready.specs.declared.handle.HandleName.{HandleName}
use Rattle.aio_ready.specs.declared.handle.HandleName.TheVariants as name
use Rattle.aio_ready.specs.Names.{is_same}
use Rattle.aio_ready.specs.Queue as queue
use Rattle.aio_ready.specs.Queue.{Queue, next_name, most_given}
use Rattle.aio_timer.specs.declared.live.TimerId.{TimerId}
use Rattle.aio_timer.specs.Schedule.{timer, placed_after, without, lives}
use Rattle.aio_cancel.specs.Awaitables.{waiting}
use Rattle.aio_task.specs.View.{View, steps_as}
use Rattle.aio_task.specs.Keeps.{Known, NameMap, Keeps, Extends, Knows, ByHandle}
use Rattle.aio_timeout.specs.declared.handler.TimeoutHandler.{TimeoutHandler}
use Rattle.aio_timeout.specs.declared.handler.TimeoutHandler.TheVariants.{Soon, At}
use Rattle.aio_timeout.specs.Kept.{known_of, IsHandler, StepsNone}
use Rattle.aio_timeout.specs.Scheduled.{Made, fires_if, tag_if}
use Rattle.refine_parts.proofs.Appending.{extends_same, extends_still, kept_same, kept_soon}
use Rattle.refine_parts.proofs.Naming.{next_named}
use Rattle.refine_parts.proofs.Running.{keeps_cancelled}
use Rattle.refine_parts.proofs.Scheduling.{kept_later, keeps_revoked}

-- ---- a name map goes on
pub give_up_extends : (t : NameMap) (p : Parts) (old : Option ℕ) → Extends p t (give_up old p) t
give_up_extends t p None = extends_same t p
give_up_extends t p (Some tag) = extends_still t p (revoke tag p) refl

pub uncancel_extends : (t : NameMap) (p : Parts) (profile : Profile) (task : ℕ) → Extends p t (uncancel profile task p) t
uncancel_extends t p profile task = extends_still t p (uncancel profile task p) (same (slice_get p.tasks task))
  where
    same : (o : Option Task)
        → (option_map_or (λ (it : Task). record p {
          tasks = slice_set p.tasks task (record it { cancels = it.cancels - 1; must_cancel = must_still_cancel profile it });
        }) o p).next_tag ≡ p.next_tag
    same None = refl
    same (Some it) = refl

-- what has a tag that was given is known as before
abbrev pub StaysKnown : NameMap → Parts → NameMap → Type 0
StaysKnown t p u = (tag : ℕ) → tag < p.next_tag → u.known tag ≡ t.known tag

known_on : (t u : NameMap) (p q : Parts) (tag : ℕ) (it : Known) → StaysKnown t p u → p.next_tag ≤ q.next_tag
    → Knows t p tag it → Knows u q tag it
known_on t u p q tag it stays tags k = record {
  given = let m = k.given in omega (arith, m, tags);
  known = stays tag k.given ∙ k.known;
}

pub handler_on : (t u : NameMap) (p q : Parts) (handler : Option TimeoutHandler) (tag : Option ℕ)
    → StaysKnown t p u → p.next_tag ≤ q.next_tag → IsHandler t p handler tag → IsHandler u q handler tag
handler_on t u p q None None stays tags h = tt
handler_on t u p q None (Some tag) stays tags h = h
handler_on t u p q (Some handler) None stays tags h = h
handler_on t u p q (Some handler) (Some tag) stays tags h = (known_on t u p q tag (known_of handler) stays tags h.0, h.1)

pub handler_given : (t : NameMap) (p : Parts) (handler : Option TimeoutHandler) (old : Option ℕ) → IsHandler t p handler old
    → (tag : ℕ) → old ≡ Some tag → tag < p.next_tag
handler_given t p None None h tag e = absurd cc
handler_given t p None (Some other) h tag e = absurd h
handler_given t p (Some handler) None h tag e = absurd h
handler_given t p (Some handler) (Some other) h tag e =
    let same : other ≡ tag = cc in subst (λ (n : ℕ). n < p.next_tag) same h.0.given

-- ---- a new handle
pub soon_made : (t : NameMap) (v : View) (p : Parts) (id : ℕ) (handle : HandleId) → Keeps t v p → v.queue.given < most_given
    → handle.name ≡ next_name v.queue
    → Made t p (Some (Soon handle)) (record v { queue = queue.soon (Fires id) v.queue }) (soon (Fires id) p) (Some p.next_tag)
soon_made t v p id handle keeps room name_is =
    let made = kept_soon t v p keeps (Fires id) in
    let next : HandleId = record { name = next_name v.queue } in
    let same : next ≡ handle = ap (λ (n : HandleName). record { name = n }) (sym name_is) in
    record {
      kept = made.0;
      handler = (
        subst (λ (it : HandleId). Knows made.0.name_map (soon (Fires id) p) p.next_tag (ByHandle it)) same made.1,
        subst (λ (n : HandleName). is_same n n ≡ true) (sym name_is) (next_named v.queue room),
      );
    }

pub later_made : (t : NameMap) (v : View) (p : Parts) (id when : ℕ) → Keeps t v p →
    let it : TimerId = record { number = v.schedule.next; when = when } in
    Made t p (Some (At it))
    (record v {
      schedule = record {
        live = placed_after (timer it (Fires id)) v.schedule.live;
        next = v.schedule.next + 1;
      };
    })
    (later when (Fires id) p) (Some p.next_tag)
later_made t v p id when keeps =
    let made = kept_later t v p keeps when (Fires id) in record { kept = made.0; handler = (made.1, tt) }

pub none_made : (t : NameMap) (v : View) (p : Parts) (id : ℕ) → Keeps t v p → Made t p None v (fires_if id None p) (tag_if None p)
none_made t v p id keeps = record {
  kept = kept_same keeps;
  handler = tt;
}

-- the time decides between the two
pub made_in_time : (t : NameMap) (v w : View) (p : Parts) (handler : Option TimeoutHandler) (id when : ℕ) → Keeps t v p → when ≤ v.time
    → Made t p handler w (soon (Fires id) p) (Some p.next_tag) → Made t p handler w (fires_if id (Some when) p) (tag_if (Some when) p)
made_in_time t v w p handler id when keeps over made =
    let h : when ≤ p.time = subst (λ (n : ℕ). when ≤ n) keeps.time over in
    rw (le-leb when p.time h) made

pub made_later : (t : NameMap) (v w : View) (p : Parts) (handler : Option TimeoutHandler) (id when : ℕ) → Keeps t v p → v.time < when
    → Made t p handler w (later when (Fires id) p) (Some p.next_tag)
    → Made t p handler w (fires_if id (Some when) p) (tag_if (Some when) p)
made_later t v w p handler id when keeps waits made =
    let h : p.time < when = subst (λ (n : ℕ). n < when) keeps.time waits in
    rw (lt-leb when p.time h) made

-- ---- a handle is given up
pub handle_given_up : (t : NameMap) (v : View) (p : Parts) (handle : HandleId) (tag : Option ℕ) → Keeps t v p
    → IsHandler t p (Some (Soon handle)) tag
    → Keeps t (record v { queue = queue.cancelled handle.name v.queue }) (give_up tag p)
handle_given_up t v p handle None keeps h = absurd h
handle_given_up t v p handle (Some tag) keeps h = keeps_cancelled t v p tag handle keeps h.0 h.1

pub timer_given_up : (t : NameMap) (v : View) (p : Parts) (id : TimerId) (tag : Option ℕ) → Keeps t v p
    → IsHandler t p (Some (At id)) tag
    → Keeps t
    (record v {
      schedule = record v.schedule { live = without id v.schedule.live };
      queue = (if lives id v.schedule.live then v.queue
          else queue.cancelled (name.Timer id.number) v.queue);
    })
    (give_up tag p)
timer_given_up t v p id None keeps h = absurd h
timer_given_up t v p id (Some tag) keeps h = keeps_revoked t v p keeps tag id h.0

pub none_given_up : (t : NameMap) (v : View) (p : Parts) (tag : Option ℕ) → Keeps t v p → IsHandler t p None tag
    → Keeps t v (give_up tag p)
none_given_up t v p None keeps h = keeps
none_given_up t v p (Some tag) keeps h = absurd h

-- ---- a new handle of a timeout is no step
pub still_no_step : (q : Queue) (id : ℕ) (other : Option TimeoutHandler) → StepsNone q other → StepsNone (queue.soon (Fires id) q) other
still_no_step q id None h = tt
still_no_step q id (Some (At timer)) h = tt
still_no_step q id (Some (Soon handle)) h =
    let new : Handle = record { name = next_name q; action = Fires id; dead = false } in
    let more : q.below ++ (q.after ++ new ∷ []) ≡ waiting q ++ new ∷ [] = sym (append_assoc q.below q.after (new ∷ [])) in
    let last : list_any (steps_as handle.name) (new ∷ []) ≡ false = rw (and_right (is_same handle.name (next_name q)) false refl) refl in
    ap (list_any (steps_as handle.name)) more
    ∙ list_any-append (steps_as handle.name) (waiting q) (new ∷ [])
    ∙ ap (λ (b : Bool). b || list_any (steps_as handle.name) (new ∷ [])) h
    ∙ last
